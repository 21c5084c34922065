-- `text::number` meets its promise: the loop keeps what is left of the digits, and the power that is next.
use mathlib.Core.Path.{◌≡◌}
use mathlib.Core.List.{◌++◌}
use Prim.Native.Nat.{◌-◌, ◌^◌}
use lib.ListN.{length}
use Rattle.file_listing.specs.Words.{places}
use Rattle.text.specs.Words.{decimal}
use Rattle.text.proofs.Writing.{Left}
use Rattle.text.proofs.Digits.{unit}
use Rattle.text.proofs.number.Given as goal

abbrev pub invariant-loop-i : goal.invariant-loop-i
invariant-loop-i l = (l.power ≡ 10 ^ (12 - l.i)) × (length l.out ≡ length l.initial.out) × Left (decimal l.n) l.initial.out l.at (places (12 - l.i) l.n ++ unit l.n) l.out l.end
