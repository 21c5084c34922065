-- How the code goes about a step: of the fields before the items it needs how many items there are.
use Rattle.std.specs.Prelude.{ℕ, Result, Ok, Err}
use Rattle.refusal.specs.declared.Refusal.{Refusal}
use Rattle.programme.specs.Reading.{Reading}

abbrev pub count_of : Reading → Result ℕ Refusal
count_of (Ok p) = Ok p.items
count_of (Err r) = Err r
