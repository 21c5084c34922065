-- The sections that a file has, by its scan.
use Rattle.std.specs.Prelude.{ℕ, List, [], Bool, not, eqb, get_or, Result, Ok, Err}
use Rattle.refusal.specs.declared.Refusal.{Refusal}
use Rattle.base.specs.Bytes.{part}
use Rattle.file.specs.Scan.{scan_of}
use Rattle.file.specs.declared.Table.{Table}

-- by section number, where each section begins in an accepted file and how many bytes it has; a refused one has none
abbrev pub starts_in : Result Table Refusal → List ℕ
starts_in (Ok t) = t.starts
starts_in (Err r) = []

abbrev pub lengths_in : Result Table Refusal → List ℕ
lengths_in (Ok t) = t.lengths
lengths_in (Err r) = []

module _ (file : List ℕ) where
  -- the byte length of section n, 0 where the file has none
  abbrev pub length_in : ℕ → ℕ
  length_in n = get_or (lengths_in (scan_of file)) n 0

  -- the file has section n
  abbrev pub carries : ℕ → Bool
  carries n = not (eqb (length_in n) 0)

  -- its bytes
  abbrev pub section_in : ℕ → List ℕ
  section_in n = part file (get_or (starts_in (scan_of file)) n 0) (length_in n)
