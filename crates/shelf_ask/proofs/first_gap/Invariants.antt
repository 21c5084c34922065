-- `shelf_ask::first_gap` meets its promise: every number passed is held.
use mathlib.Core.Path.{◌≡◌}
use mathlib.Core.Bool.{not}
use Prim.Native.Nat.{◌+◌, ◌≤◌}
use Rattle.base.specs.Below.{lowest}
use Rattle.base.specs.Bits.{bit}
use Rattle.shelf_ask.proofs.first_gap.Given as goal

abbrev pub invariant-loop-n : goal.invariant-loop-n
invariant-loop-n l = (l.n ≤ l.last + 1) × (lowest l.n (λ k. not (bit l.mask k)) ≡ l.n)
