-- Document 01, "The shelf file", of the functions that a host calls: what a load is answered, what was saved restores the table, and
-- saving what was loaded gives the same bytes. What a save writes is told in specs/Shelf, AskedExactly. The theorems are in proofs/Files.
use Rattle.std.specs.Prelude.{ℕ, ◌≤◌, ◌≡◌, false, List, ◌↔◌, length, take, Result, Ok}
use Rattle.refusal.specs.declared.Refusal.{Refusal}
use Rattle.base.specs.Octets.{Octets}
use Rattle.section.specs.declared.Header.{Header}
use Rattle.answers.specs.Answers.{Out, refusal_in, size_in, filled}
use Rattle.key.specs.declared.Key.{Key}
use Rattle.shelf.specs.Record.{key_of}
use Rattle.shelf_load.specs.Answer.{loaded_in}
use Rattle.shelf_save.specs.Answer.{save_lent}
use Rattle.file.specs.Scan.{scan_of, heading}
use Rattle.shelf_laws.specs.History.{Question, about}
use Rattle.shelf_laws.specs.Log.{held_by, Full}
use Rattle.shelf_laws.specs.Loads.{FileSays}
use Rattle.shelf_histories.specs.History.{History, loan, reply_to, log_after, reply_after, save_after, load_after}

-- the file that a save left at the front of its output
abbrev pub file_in : Out → List ℕ
file_in saved = take (size_in saved.code) saved.out

-- what a load is answered, as its number tells it, is what the file and the log say: the number of the file's first fault; 13 where its
-- table is held; 9 where it is not and four others are; and else it is loaded
abbrev pub LoadedExactly : Type 0
LoadedExactly =
    (h : History) (file : List ℕ) (a : Result (Unit {0}) Refusal) → (loaded_in (load_after h file).code ≡ a) ↔ FileSays (scan_of file) (log_after h) a

-- A table is saved after one history, and the file is loaded after another that does not hold that table: it is loaded, unless the
-- shelf is full, and then every question about the table is answered as before.
abbrev pub RestoresAlways : Type 0
RestoresAlways =
    (first second : History) (key : Key) (output : List ℕ)
    → refusal_in (save_after first key output).code ≡ 0
    → held_by key (log_after second) ≡ false
    → ¬ (Full (log_after second))
    → ((load_after second (file_in (save_after first key output))).code ≡ 0)
    × ((q : Question) → about q ≡ key → reply_to (loan (load_after second (file_in (save_after first key output)))) q ≡ reply_after first q)

-- a file that is loaded, and whose table is then saved with room for it, is written byte for byte
abbrev pub SavedAgain : Type 0
SavedAgain =
    (h : History) (file : List ℕ)
    → Octets file
    → (header : Header)
    → heading (scan_of file) ≡ Ok header
    → (load_after h file).code ≡ 0
    → (output : List ℕ)
    → length file ≤ length output
    → save_lent (load_after h file).words (load_after h file).store (key_of header) output
    ≡ filled file output
