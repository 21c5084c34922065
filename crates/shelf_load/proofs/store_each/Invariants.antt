-- `shelf_load::store_each` meets its promise: after each turn the sections passed are stored.
use mathlib.Core.Path.{◌≡◌}
use Prim.Native.Nat.{◌+◌, ◌≤◌}
use lib.ListN.{length}
use Rattle.berth.specs.Berth.{store_size}
use Rattle.shelf_load.specs.Load.{stored_below}
use Rattle.shelf_load.proofs.store_each.Given as goal

abbrev pub invariant-loop-n : goal.invariant-loop-n
invariant-loop-n l = (l.n ≤ l.table.header.last + 1)
    × (length l.store ≡ store_size)
    × (l.store ≡ stored_below l.n l.file l.table.starts l.table.lengths l.initial.store l.p)
