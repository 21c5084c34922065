-- `trigger_faults::is_high` meets its contract: what the loop has gathered is what holds of some place passed. Assumes nothing.
use mathlib.Core.Path.{◌≡◌}
use Prim.Native.Nat.{◌+◌}
use lib.Dec.{ltb}
use Rattle.base.specs.Bytes.{byte}
use Rattle.base.specs.Below.{some}
use Rattle.trigger_faults.proofs.is_high.Given as goal

abbrev pub invariant-loop-i : goal.invariant-loop-i
invariant-loop-i l = l.high ≡ some l.i (λ k. ltb 127 (byte l.payload (l.at + k)))
