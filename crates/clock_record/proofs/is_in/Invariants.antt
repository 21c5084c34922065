-- `is_in` gathers over all.
use mathlib.Core.Path.{◌≡◌}
use mathlib.Core.Bool.{◌||◌}
use lib.Dec.{eqb}
use lib.ListN.{drop}
use Rattle.clock_record.specs.Lists.{any_of}
use Rattle.clock_record.proofs.is_in.Given as goal

abbrev pub invariant-loop-y : goal.invariant-loop-y
invariant-loop-y l = l.found || any_of (eqb l.x) (drop l.y-index l.codes) ≡ any_of (eqb l.x) l.codes
