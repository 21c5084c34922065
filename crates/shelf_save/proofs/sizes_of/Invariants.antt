-- `shelf_save::sizes_of` meets its promise: after each turn the sections passed are counted and added up.
use mathlib.Core.Path.{◌≡◌}
use Prim.Native.Nat.{◌≤◌, ◌*◌}
use lib.ListN.{length}
use Rattle.berth.specs.Berth.{sections}
use Rattle.shelf_save.specs.Sizes.{size_below, count_below}
use Rattle.shelf_save.proofs.sizes_of.Given as goal

abbrev pub invariant-loop-n : goal.invariant-loop-n
invariant-loop-n l = (l.n ≤ sections)
    × (length l.lengths ≡ sections)
    × (l.count ≤ l.n)
    × (l.bytes ≤ 65538 * l.n)
    × (l.count ≡ count_below l.n l.lengths)
    × (l.bytes ≡ size_below l.n l.lengths)
