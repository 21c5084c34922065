-- `descriptors::is_mark` meets its contract: what the loop has gathered is what holds of every place passed. Assumes nothing.
use mathlib.Core.Path.{◌≡◌}
use Prim.Native.Nat.{◌+◌, ◌≤◌}
use Rattle.base.specs.Bytes.{byte}
use Rattle.base.specs.Below.{every}
use Rattle.descriptors.specs.Letter.{matches}
use Rattle.descriptors.specs.Mark.{mark}
use Rattle.descriptors.proofs.Letters.{InCapitals}
use Rattle.descriptors.proofs.is_mark.Given as goal

abbrev pub invariant-loop-i : goal.invariant-loop-i
invariant-loop-i l = (l.i ≤ 24) × InCapitals l.capitals × (l.same ≡ every l.i (λ k. matches (byte l.bytes (l.start + k)) (byte mark k)))
