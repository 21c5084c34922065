-- What the round trips speak of: a table as it was left, and a table that is restored; and their words.
use Rattle.std.specs.Prelude.{ℕ, ◌<◌, ◌≤◌, ◌≡◌, true, false, List, length, take, Ok}
use Rattle.section.specs.Section.{read_of, header_of}
use Rattle.section.specs.declared.Header.{Header}
use Rattle.berth.specs.Berth.{sections, places, standing}
use Rattle.shelf.specs.Record.{place_at, length_at, holds, place_of}
use Rattle.key.specs.declared.Key.{Key}
use Rattle.shelf.specs.Record.{key_of}
use Rattle.file_number.specs.Number.{Bytes}
use Rattle.file.specs.Scan.{scan_of, heading}
use Rattle.shelf_save.specs.Save.{written}
use Rattle.shelf_laws.specs.State.{State, load_on, save_out, after_load}
use Rattle.shelf_laws.specs.History.{Question, about, reply, Call, after_all, log_of}
use Rattle.shelf_laws.specs.Log.{held_by, Full}

-- the bytes that stand for section n of place p, by its held length
abbrev pub bytes_at : State → ℕ → ℕ → List ℕ
bytes_at s p n = standing s.store p n (length_at (place_at s.shelf p) n)

-- a sound section of that key, version, last number and number
pub record IsSection (k : Key) (v l n : ℕ) (bytes : List ℕ) : Type 0 where
  pub sound : read_of bytes ≡ Ok (header_of bytes)
  pub key : key_of (header_of bytes) ≡ k
  pub version : (header_of bytes).version ≡ v
  pub last : (header_of bytes).last ≡ l
  pub number : (header_of bytes).number ≡ n

-- the table with that key is as it was left: where it is held, the bytes that stand for its held sections are its sections
abbrev pub AsLeft : State → Key → Type 0
AsLeft s key =
    place_of s.shelf key < places
    → (n : ℕ)
    → n < sections
    → holds (place_at s.shelf (place_of s.shelf key)) n ≡ true
    → IsSection key (place_at s.shelf (place_of s.shelf key)).version (place_at s.shelf (place_of s.shelf key)).last n
    (bytes_at s (place_of s.shelf key) n)

-- t has of the table with that key what s has: the same record of it, and section for section the same bytes
pub record Restored (s t : State) (key : Key) : Type 0 where
  pub held : place_of t.shelf key < places
  pub table : place_at t.shelf (place_of t.shelf key) ≡ place_at s.shelf (place_of s.shelf key)
  pub bytes : (n : ℕ) → bytes_at t (place_of t.shelf key) n ≡ bytes_at s (place_of s.shelf key) n

-- the file that a save wrote, loaded on t: it is loaded, and t has the table that s has
abbrev pub Restores : State → Key → State → List ℕ → Type 0
Restores s key t file = ((load_on t file).said ≡ Ok tt) × Restored s (after_load (load_on t file)) key

-- what was saved after one history, loaded after another which does not hold that table, restores it, unless the shelf is full
abbrev pub RestoresAlways : Type 0
RestoresAlways =
    (h i : List Call) (key : Key) (out : List ℕ) (n : ℕ)
    → (save_out (after_all h) key out).said ≡ Ok n
    → held_by key (log_of i) ≡ false
    → ¬ (Full (log_of i))
    → Restores (after_all h) key (after_all i) (take n (save_out (after_all h) key out).out)

-- a restored table answers every question as the one that was saved
abbrev pub AnswersAlike : State → State → Key → Type 0
AnswersAlike s t key = (q : Question) → about q ≡ key → reply t q ≡ reply s q

-- after any history, saving a file of bytes that was just loaded gives the same bytes
abbrev pub SavedAgain : Type 0
SavedAgain =
    (h : List Call) (file : List ℕ)
    → Bytes file
    → (header : Header)
    → heading (scan_of file) ≡ Ok header
    → (load_on (after_all h) file).said ≡ Ok tt
    → (out : List ℕ)
    → length file ≤ length out
    → save_out (after_load (load_on (after_all h) file)) (key_of header) out ≡ written file out
