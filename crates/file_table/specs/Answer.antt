-- Which table a file is: refused by the file's first fault from the left (11, 12, or 2 to 8 and 46 for one of a section), and by 15 where its numbers
-- do not fit the lent buffer. Document 01 has no such question; a load that is done gives the same table a place.
use Rattle.std.specs.Prelude.{ℕ, List, [], Result, Ok, Err}
use Rattle.refusal.specs.Refusal.{number}
use Rattle.refusal.specs.declared.Refusal.{Refusal}
use Rattle.answers.specs.Answers.{Told, told, Out, puts}
use Rattle.tables.specs.declared.Table.{Table}
use Rattle.tables.specs.Numbers.{table_numbers}
use Rattle.section.specs.declared.Header.{Header}
use Rattle.file.specs.Scan.{scan_of}
use Rattle.file.specs.declared.Table.{Table as Found}

-- what all sections share, by the first one's header, and the length of each, 0 where the file lacks it
abbrev pub file_table : Header → List ℕ → Table
file_table h lengths =
    record { key = h.key; version = h.version; last = h.last; lengths = lengths }

-- the number and the values of the answer
abbrev pub told_by : Result Found Refusal → Told
told_by (Ok found) = told 0 (table_numbers (file_table found.header found.lengths))
told_by (Err r) = told (number r) []

unfoldable pub file_told : List ℕ → Told
file_told file = told_by (scan_of file)

-- put at the front of a lent buffer
unfoldable pub file_table_lent : List ℕ → List ℕ → Out
file_table_lent file fields = puts (file_told file) fields
