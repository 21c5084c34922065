-- `is_among` gathers: what was found, or is among what is left.
use mathlib.Core.Path.{◌≡◌}
use mathlib.Core.Bool.{◌||◌}
use lib.ListN.{take, drop}
use Rattle.clock_record.specs.Held.{is_held}
use Rattle.clock_record.specs.Words.{helds_in}
use Rattle.clock_record.proofs.is_among.Given as goal

abbrev pub invariant-loop-i : goal.invariant-loop-i
invariant-loop-i l = l.found || is_held l.a (drop l.i (take l.n (helds_in l.words))) ≡ is_held l.a (take l.n (helds_in l.words))
