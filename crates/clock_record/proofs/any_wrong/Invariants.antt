-- `any_wrong` gathers: what was found, or is among what is left.
use mathlib.Core.Path.{◌≡◌}
use mathlib.Core.Bool.{◌||◌}
use lib.ListN.{take, drop}
use Rattle.clock_record.specs.Lists.{any_of}
use Rattle.clock_record.specs.Held.{wrong}
use Rattle.clock_record.specs.Words.{helds_in}
use Rattle.clock_record.proofs.any_wrong.Given as goal

abbrev pub invariant-loop-i : goal.invariant-loop-i
invariant-loop-i l = l.found || any_of (wrong l.current) (drop l.i (take l.n (helds_in l.words))) ≡ any_of (wrong l.current) (take l.n (helds_in l.words))
