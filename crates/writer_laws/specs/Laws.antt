-- Document 02, request 1: "Offered to a fresh shelf in any order, the sections make a complete table whose joined bodies are the
-- given body." The words, proved in proofs/AnyOrder; and of the file of the sections, in proofs/Files.
use Rattle.std.specs.Prelude.{ℕ, ◌+◌, ◌≤◌, ◌≡◌, true, List, ◌++◌, length, drop, Ok}
use Rattle.key.specs.Key.{nrt_it}
use Rattle.section.specs.declared.Header.{Header}
use Rattle.shelf_ask.specs.Ask.{copy}
use Rattle.file.specs.Layout.{SoundTable}
use Rattle.file.specs.Scan.{scan_of, heading, table_in}
use Rattle.file_listing.specs.Words.{lines}
use Rattle.file_listing.specs.Listing.{head_line, section_line, complete_line, text_of}
use Rattle.shelf_laws.specs.History.{Call, log_of, copy_after, whole_after, Each}
use Rattle.shelf_laws.specs.Reception.{OfferedIn, Undisturbed}
use Rattle.writer.specs.Writer.{longest_body, last_of, body_at, written}
use Rattle.writer.specs.Theorems.{found}
use Rattle.writer_file.specs.Feeding.{sections_of, feed_file}
use Rattle.writer.specs.declared.Label.{Label}
use Rattle.writer_laws.specs.Offers.{label_key, offers_of, AnyOrder, bodies_after}

-- After a history h:
-- the table is called complete
abbrev pub CompleteIn : Label → List Call → Type 0
CompleteIn label h = whole_after h (label_key label) ≡ Ok true

-- each section is handed out as it was written
abbrev pub HandedIn : Label → List ℕ → List Call → Type 0
HandedIn label body h =
    (k : ℕ)
    → k ≤ last_of (length body)
    → (out : List ℕ)
    → length (written label body k) ≤ length out
    → copy_after h (label_key label) k out
    ≡ copy (Ok (length (written label body k))) (written label body k ++ drop (length (written label body k)) out)

-- the joined bodies of the sections that are handed out are the given body
abbrev pub JoinedIn : Label → List ℕ → List Call → Type 0
JoinedIn label body h = (out : List ℕ) → 1024 ≤ length out → bodies_after h (label_key label) out (last_of (length body) + 1) ≡ body

-- so of every label and body that the writer takes, and every order of their sections
abbrev pub InAnyOrder : (Label → List ℕ → List ℕ → Type 0) → Type 0
InAnyOrder p =
    (label : Label) (body : List ℕ)
    → ¬ (label.table ≡ nrt_it)
    → label.version ≤ 31
    → length body ≤ longest_body
    → (ks : List ℕ)
    → AnyOrder (last_of (length body)) ks
    → p label body ks

abbrev pub CompleteTable : Type 0
CompleteTable = InAnyOrder (λ label body ks. CompleteIn label (offers_of label body ks))

abbrev pub HandsOut : Type 0
HandsOut = InAnyOrder (λ label body ks. HandedIn label body (offers_of label body ks))

abbrev pub BodiesBack : Type 0
BodiesBack = InAnyOrder (λ label body ks. JoinedIn label body (offers_of label body ks))

-- and of every history that leaves the table undisturbed and offers each section, whatever else the shelf is asked and offered
abbrev pub Among : (Label → List ℕ → List Call → Type 0) → Type 0
Among p =
    (label : Label) (body : List ℕ)
    → ¬ (label.table ≡ nrt_it)
    → label.version ≤ 31
    → length body ≤ longest_body
    → (h : List Call)
    → Each (Undisturbed (label_key label) label.version (last_of (length body)) (written label body)) (log_of h)
    → ((k : ℕ) → k ≤ last_of (length body) → OfferedIn h (written label body k))
    → p label body h

abbrev pub CompleteAmong : Type 0
CompleteAmong = Among (λ label body h. CompleteIn label h)

abbrev pub HandedAmong : Type 0
HandedAmong = Among HandedIn

abbrev pub JoinedAmong : Type 0
JoinedAmong = Among JoinedIn

-- The file of the sections (proofs/Files): of every label and body that the writer takes,
abbrev pub Written : (Label → List ℕ → Type 0) → Type 0
Written p = (label : Label) (body : List ℕ) → ¬ (label.table ≡ nrt_it) → label.version ≤ 31 → length body ≤ longest_body → p label body

-- the sections are those of a sound table
abbrev pub SoundSections : Type 0
SoundSections = Written (λ label body. SoundTable (sections_of label body))

-- the header of its first section, with the label and the last number
abbrev pub first_header : Label → List ℕ → Header
first_header label body = found label 0 (last_of (length body)) (body_at body 0)

-- the file's reading gives the table with the label and the last number
abbrev pub FileAccepted : Type 0
FileAccepted = Written (λ label body. heading (scan_of (feed_file label body)) ≡ Ok (first_header label body))

-- and finds the sections, each once and in order
abbrev pub FileHolds : Type 0
FileHolds = Written (λ label body. table_in (feed_file label body) ≡ sections_of label body)

-- its list has a line for each section, and says that the table is complete
abbrev pub FileListed : Type 0
FileListed =
    Written (λ label body.
    text_of (feed_file label body)
    ≡ head_line (first_header label body)
    ++ (lines (last_of (length body) + 1) (λ k. section_line k (length (written label body k))) ++ complete_line))
