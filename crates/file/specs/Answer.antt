-- The number and the values of the answer to reading a file.
use Rattle.std.specs.Prelude.{◌≡◌, ◌∷◌, ◌++◌, [], length, Result, Ok, Err}
use Rattle.refusal.specs.Refusal.{number}
use Rattle.refusal.specs.declared.Refusal.{Refusal}
use Rattle.answers.specs.Answers.{Told, told}
use Rattle.file.specs.declared.Table.{Table}

-- what the first section's header says, and by section number where each section begins and how many bytes it has
abbrev pub scan_told : Result Table Refusal → Told
scan_told (Ok t) =
    told 0
    (t.header.key.table
    ∷ t.header.key.extension
    ∷ t.header.key.service
    ∷ t.header.key.start
    ∷ t.header.version
    ∷ t.header.number
    ∷ t.header.last
    ∷ t.header.start
    ∷ t.header.length
    ∷ length t.starts
    ∷ (t.starts ++ t.lengths))
scan_told (Err r) = told (number r) []

-- they lose nothing
abbrev pub ScanTold : Type 0
ScanTold = (x y : Result Table Refusal) → scan_told x ≡ scan_told y → x ≡ y
