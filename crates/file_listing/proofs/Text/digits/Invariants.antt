-- `Text::digits` meets its promise: the loop keeps the power that is next, and that the digits of those before it are written.
use mathlib.Core.Path.{◌≡◌}
use Prim.Native.Nat.{◌-◌, ◌^◌}
use Rattle.file_listing.proofs.Digits.{Digits}
use Rattle.file_listing.proofs.Text.digits.Given as goal

abbrev pub invariant-loop-i : goal.invariant-loop-i
invariant-loop-i l = (l.power ≡ 10 ^ (l.powers - l.i)) × Digits l.powers l.n l.i l.initial.self l.self
