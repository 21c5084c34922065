-- `shelf_save::write_sections` meets its promise: after each turn the held sections passed are listed.
use mathlib.Core.Path.{◌≡◌}
use Prim.Native.Nat.{◌+◌, ◌≤◌}
use lib.ListN.{length}
use Rattle.berth.specs.Berth.{sections, laid}
use Rattle.file.specs.Layout.{listed}
use Rattle.shelf_save.specs.Sizes.{size_below}
use Rattle.shelf_save.specs.Save.{held_below}
use Rattle.shelf_save.proofs.write_sections.Given as goal

abbrev pub invariant-loop-n : goal.invariant-loop-n
invariant-loop-n l = (l.n ≤ sections)
    × (length l.lengths ≡ sections)
    × (length l.out ≡ length l.initial.out)
    × (l.at ≡ l.from + size_below l.n l.lengths)
    × (l.out ≡ laid l.initial.out l.from (listed (held_below l.n l.lengths l.store l.p)))
