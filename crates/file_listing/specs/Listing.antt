-- Document 01, "The lister": what is printed for a file. Document 02, request 4: the first line of an NRT-IT tells its whole key.
use Rattle.std.specs.Prelude.{ℕ, ◌+◌, List, [], ◌∷◌, ◌++◌, ltb, eqb, length, get_or, drop, if◌then◌else◌, Result, Ok, Err}
use Rattle.base.specs.Choice.{◌if◌, first}
use Rattle.base.specs.Below.{every}
use Rattle.key.specs.Key.{nrt_it}
use Rattle.key.specs.declared.Key.{Key}
use Rattle.section.specs.declared.Header.{Header}
use Rattle.file.specs.Scan.{scan_of, found_at}
use Rattle.file.specs.declared.Table.{Table}
use Rattle.refusal.specs.Refusal.{number}
use Rattle.refusal.specs.declared.Refusal.{Refusal}
use Rattle.refusal.specs.declared.Refusal.TheVariants.{OutputTooSmall}
use Rattle.file_listing.specs.Words.{ascii, field, long_decimal, newline, lines}

-- what the line of an NRT-IT says after its extension: service 7 start 1000000800
unfoldable pub added_words : Key → List ℕ
added_words key = if eqb key.table nrt_it then field " service " key.service ++ (ascii " start " ++ long_decimal key.start) else []

-- table 201 key 4660 version 3 last 0, and table 223 key 4097 service 7 start 1000000800 version 3 last 0
unfoldable pub head_line : Header → List ℕ
head_line h =
    field "table " h.key.table
    ++ (field " key " h.key.extension
    ++ (added_words h.key ++ (field " version " h.version ++ (field " last " h.last ++ newline))))

-- section 0 bytes 8
unfoldable pub section_line : ℕ → ℕ → List ℕ
section_line n size = field "section " n ++ (field " bytes " size ++ newline)

-- missing 0
unfoldable pub missing_line : ℕ → List ℕ
missing_line n = field "missing " n ++ newline

-- complete
abbrev pub complete_line : List ℕ
complete_line = ascii "complete" ++ newline

-- refused 12
unfoldable pub refused_line : ℕ → List ℕ
refused_line n = field "refused " n ++ newline

-- the line of a number that the file holds, and of one that it lacks
unfoldable pub section_of : List ℕ → ℕ → List ℕ
section_of lengths n = if found_at lengths n then section_line n (get_or lengths n 0) else []

unfoldable pub missing_of : List ℕ → ℕ → List ℕ
missing_of lengths n = if found_at lengths n then [] else missing_line n

-- a line for each section held; then that the table is complete, or a line for each that lacks
unfoldable pub end_of : ℕ → List ℕ → List ℕ
end_of last lengths = if every (last + 1) (found_at lengths) then complete_line else lines (last + 1) (missing_of lengths)

unfoldable pub table_text : Header → List ℕ → List ℕ
table_text h lengths = head_line h ++ (lines (h.last + 1) (section_of lengths) ++ end_of h.last lengths)

-- a bad file prints its refusal and no more
abbrev pub answer_text : Result Table Refusal → List ℕ
answer_text (Ok table) = table_text table.header table.lengths
answer_text (Err r) = refused_line (number r)

-- the text for a file
unfoldable pub text_of : List ℕ → List ℕ
text_of file = answer_text (scan_of file)

-- what listing leaves: the answer and the output
pub record Listing : Type 0 where
  pub said : Result ℕ Refusal
  pub out : List ℕ

abbrev pub listing : Result ℕ Refusal → List ℕ → Listing
listing said out = record { said = said; out = out }

-- the text at the front of the output, whose bytes past it stay as they were; 15 where it does not fit
unfoldable pub list_of : List ℕ → List ℕ → Listing
list_of file out =
    first (λ r. listing (Err r) out)
    (OutputTooSmall if ltb (length out) (length (text_of file)) ∷ [])
    (listing (Ok (length (text_of file))) (text_of file ++ drop (length (text_of file)) out))
