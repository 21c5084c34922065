-- `shelf_load::hold_each` meets its promise: after each turn those of the sections passed that have a length are held.
use mathlib.Core.Path.{◌≡◌}
use Prim.Native.Nat.{◌≤◌}
use lib.ListN.{length}
use Rattle.shelf_load.specs.On.{held_below}
use Rattle.shelf_load.proofs.hold_each.Given as goal

abbrev pub invariant-loop-n : goal.invariant-loop-n
invariant-loop-n l = (l.n ≤ 16) × (length l.words ≡ 96) × (length l.lengths ≡ 16) × (l.words ≡ held_below l.n l.initial.words l.p l.lengths)
