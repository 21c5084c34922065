-- `four_in` gathers over all.
use mathlib.Core.Path.{◌≡◌}
use mathlib.Core.Bool.{◌||◌}
use lib.ListN.{drop}
use Rattle.clock_record.specs.Lists.{any_of}
use Rattle.clock_record.specs.Codes.{one_of}
use Rattle.clock_record.proofs.four_in.Given as goal

abbrev pub invariant-loop-y : goal.invariant-loop-y
invariant-loop-y l = l.found || any_of (one_of l.a l.b l.c l.d) (drop l.y-index l.codes) ≡ any_of (one_of l.a l.b l.c l.d) l.codes
