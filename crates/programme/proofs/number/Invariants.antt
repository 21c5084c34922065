-- `programme::number` meets its contract: what was read so far is the number in so many bytes.
use mathlib.Core.Path.{◌≡◌}
use Rattle.programme.specs.Field.{number}
use Rattle.programme.proofs.number.Given as goal

abbrev pub invariant-loop-i : goal.invariant-loop-i
invariant-loop-i g l = l.number ≡ number l.field 0 l.i
