-- Document 01, "The shelf file": reading. "Loading reads left to right and the first fault from the left gives the answer. A fault
-- inside a section gives that section's own number, 2 to 8. At each section the order is 11, its length and running past the file
-- (12), its own number, then key, version, last and rising number (12)." Document 02, request 4: 46 is a section's own number as well.
use Rattle.std.specs.Prelude.{ℕ, zero, suc, ◌+◌, List, [], ◌∷◌, Bool, not, ◌||◌, ltb, eqb, length, get_or, set, replicate, if◌then◌else◌, Option, None, Some, Result, Ok, Err}
use Rattle.std.specs.Option.{unwrap_or}
use Rattle.refusal.specs.declared.Refusal.{Refusal}
use Rattle.refusal.specs.declared.Refusal.TheVariants.{BadFile}
use Rattle.base.specs.Choice.{◌if◌, first}
use Rattle.base.specs.Bytes.{part}
use Rattle.section.specs.Section.{read_of}
use Rattle.section.specs.declared.Header.{Header}
use Rattle.file_number.specs.Number.{number_at}
use Rattle.file_number.specs.declared.Number.{Number}
use Rattle.file.specs.Layout.{form, fewest, most_counted, shortest, longest, chosen, same_table}
use Rattle.file.specs.declared.Part.{Part}
use Rattle.file.specs.declared.Table.{Table}

-- what the sections read so far say: the first one's header, if there is one, the lowest number that the next may have, the place
-- where it begins, and by number the place and the length of each
pub record Seen : Type 0 where
  pub first : Option Header
  pub lowest : ℕ
  pub next : ℕ
  pub starts : List ℕ
  pub lengths : List ℕ

-- the table that the sections read are; without any there is none
abbrev pub table_of : List ℕ → List ℕ → Option Header → Result Table Refusal
table_of starts lengths (Some h) = Ok (record { header = h; starts = starts; lengths = lengths })
table_of starts lengths None = Err BadFile

abbrev pub accepted : Seen → Result Table Refusal
accepted seen = table_of seen.starts seen.lengths seen.first

-- no section is read yet: any number may come first, and it comes at a place of the file
abbrev pub nothing : ℕ → Seen
nothing at = record { first = None; lowest = 0; next = at; starts = replicate most_counted 0; lengths = replicate most_counted 0 }

-- the first section's header, which may be this one's
abbrev pub first_of : Seen → Header → Header
first_of seen h = unwrap_or seen.first h

-- with one section more: the next number is above this one's, and the next place after its bytes
abbrev pub added : Seen → Header → ℕ → ℕ → Seen
added seen h start size =
    record {
      first = Some (first_of seen h);
      lowest = h.number + 1;
      next = start + size;
      starts = set seen.starts h.number start;
      lengths = set seen.lengths h.number size;
    }

-- a section of the file, by its parts
abbrev pub lying : Header → ℕ → ℕ → Part
lying h start size = record { header = h; start = start; length = size }

-- its own number, 2 to 8 or 46
abbrev pub reading_of : ℕ → ℕ → Result Header Refusal → Result Part Refusal
reading_of start size (Ok h) = Ok (lying h start size)
reading_of start size (Err r) = Err r

-- 11; 12: length not 8 to 1,024; 12: bytes run past the file
abbrev pub length_of : List ℕ → Result Number Refusal → Result Part Refusal
length_of file (Err r) = Err r
length_of file (Ok found) =
    first Err
    (BadFile if (ltb found.value shortest || ltb longest found.value)
    ∷ BadFile if ltb (length file) (found.next + found.value)
    ∷ [])
    (reading_of found.next found.value (read_of (part file found.next found.value)))

-- the section at a place of the file
unfoldable pub section_at : List ℕ → ℕ → Result Part Refusal
section_at file at = length_of file (number_at file at)

-- 12: keys, versions or lasts differ; 12: numbers not rising
abbrev pub follow_of : (Seen → Result Table Refusal) → Seen → Result Part Refusal → Result Table Refusal
follow_of go seen (Err r) = Err r
follow_of go seen (Ok p) =
    first Err
    (BadFile if not (same_table (first_of seen p.header) p.header) ∷ BadFile if ltb p.header.number seen.lowest ∷ [])
    (go (added seen p.header p.start p.length))

-- so many sections, and then the file's end; 12: bytes left over
unfoldable pub sections_of : ℕ → List ℕ → Seen → Result Table Refusal
sections_of zero file seen = first Err (BadFile if ltb seen.next (length file) ∷ []) (accepted seen)
sections_of (suc more) file seen = follow_of (sections_of more file) seen (section_at file seen.next)

-- 11; 12: count not 1 to 16
abbrev pub count_of : List ℕ → Result Number Refusal → Result Table Refusal
count_of file (Err r) = Err r
count_of file (Ok count) =
    first Err (BadFile if (ltb count.value fewest || ltb most_counted count.value) ∷ []) (sections_of count.value file (nothing count.next))

-- 11; 12: form not 1
abbrev pub form_of : List ℕ → Result Number Refusal → Result Table Refusal
form_of file (Err r) = Err r
form_of file (Ok found) = first Err (BadFile if not (eqb found.value form) ∷ []) (count_of file (number_at file found.next))

-- the reading of a file
unfoldable pub scan_of : List ℕ → Result Table Refusal
scan_of file = form_of file (number_at file 0)

-- what it says of the table: the first section's header, or the refusal
abbrev pub heading : Result Table Refusal → Result Header Refusal
heading (Ok table) = Ok table.header
heading (Err r) = Err r

-- section n is held, where its length is not 0
abbrev pub found_at : List ℕ → ℕ → Bool
found_at lengths n = not (eqb (get_or lengths n 0) 0)

-- the sections that were found in a file, by rising number
unfoldable pub found_in : List ℕ → List ℕ → List ℕ → List (List ℕ)
found_in file starts lengths = chosen most_counted (found_at lengths) (λ n. part file (get_or starts n 0) (get_or lengths n 0))

abbrev pub sections_in : List ℕ → Result Table Refusal → List (List ℕ)
sections_in file (Ok table) = found_in file table.starts table.lengths
sections_in file (Err r) = []

-- the table that the file was read as
abbrev pub table_in : List ℕ → List (List ℕ)
table_in file = sections_in file (scan_of file)
