-- `two_same`: what is left to scan answers as the whole does, four at a time and then one.
use mathlib.Core.Path.{◌≡◌}
use lib.ListN.{length}
use Rattle.clock_record.specs.Codes.{two_same}
use Rattle.clock_record.proofs.two_same.Given as goal

abbrev pub invariant-loop-rest : goal.invariant-loop-rest
invariant-loop-rest l = two_same l.codes ≡ two_same l.rest

abbrev pub decreases-loop-rest : goal.decreases-loop-rest
decreases-loop-rest l = length l.rest

abbrev pub invariant-loop-rest-2 : goal.invariant-loop-rest-2
invariant-loop-rest-2 l = two_same l.codes ≡ two_same l.rest

abbrev pub decreases-loop-rest-2 : goal.decreases-loop-rest-2
decreases-loop-rest-2 l = length l.rest
