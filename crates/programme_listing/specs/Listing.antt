-- The text for staff: what a programme list holds.
use Rattle.std.specs.Prelude.{ℕ, ◌+◌, Bool, true, false, ◌&&◌, List, [], ◌∷◌, ◌++◌, ltb, eqb, length, get_or, drop, if◌then◌else◌, Result, Ok, Err}
use Rattle.base.specs.Choice.{◌if◌, first}
use Rattle.base.specs.Below.{every}
use Rattle.base.specs.Bytes.{part}
use Rattle.section.specs.declared.Header.{Header}
use Rattle.file.specs.Scan.{scan_of, found_at}
use Rattle.file.specs.declared.Table.{Table}
use Rattle.refusal.specs.Refusal.{number}
use Rattle.refusal.specs.declared.Refusal.{Refusal}
use Rattle.refusal.specs.declared.Refusal.TheVariants.{OutputTooSmall}
use Rattle.file_listing.specs.Words.{lines}
use Rattle.file_listing.specs.Listing.{head_line, missing_of, refused_line}
use Rattle.programme.specs.Table.{nrt_it}
use Rattle.programme_lines.specs.Lines.{other_line, whole_line, not_whole_line}
use Rattle.programme_section.specs.Section.{section_text, section_read}

-- the last line
abbrev pub end_line : Bool → List ℕ
end_line true = whole_line
end_line false = not_whole_line

-- of a file that was read, where its sections lie, by number
module _ (file starts lengths : List ℕ) where
  -- the bytes of section n
  abbrev pub payload_of : ℕ → List ℕ
  payload_of n = part file (get_or starts n 0) (get_or lengths n 0)

  -- the text of section n, where the file holds it
  unfoldable pub section_of : ℕ → List ℕ
  section_of n = if found_at lengths n then section_text n (payload_of n) else []

  -- it is held, and read to its end
  unfoldable pub whole_at : ℕ → Bool
  whole_at n = found_at lengths n && section_read (payload_of n)

  -- the sections held, rising; a line for each that lacks; and the last line
  unfoldable pub list_text : ℕ → List ℕ
  list_text last =
      lines (last + 1) section_of ++ (lines (last + 1) (missing_of lengths) ++ end_line (every (last + 1) whole_at))

  -- table 223 key 4096 service 3152 start 1000000800 version 3 last 1
  unfoldable pub table_text : Header → List ℕ
  table_text h = head_line h ++ (if eqb h.key.table nrt_it then list_text h.last else other_line)

-- a bad file prints its refusal and no more
abbrev pub answer_text : List ℕ → Result Table Refusal → List ℕ
answer_text file (Ok table) = table_text file table.starts table.lengths table.header
answer_text file (Err r) = refused_line (number r)

-- the text for a file
unfoldable pub text_of : List ℕ → List ℕ
text_of file = answer_text file (scan_of file)

-- what listing leaves: the answer and the output
pub record Listing : Type 0 where
  pub said : Result ℕ Refusal
  pub out : List ℕ

abbrev pub listing : Result ℕ Refusal → List ℕ → Listing
listing said out = record { said = said; out = out }

-- the text at the front of the output, whose bytes past it stay as they were; 15 where it does not fit
unfoldable pub list_of : List ℕ → List ℕ → Listing
list_of file out =
    first (λ r. listing (Err r) out)
    (OutputTooSmall if ltb (length out) (length (text_of file)) ∷ [])
    (listing (Ok (length (text_of file))) (text_of file ++ drop (length (text_of file)) out))
