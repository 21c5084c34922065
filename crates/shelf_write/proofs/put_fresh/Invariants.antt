-- `shelf_write::put_fresh` meets its promise: number by number.
use mathlib.Core.Path.{◌≡◌}
use lib.ListN.{length}
use Rattle.shelf_write.specs.Writes.{fresh_number}
use Rattle.shelf.proofs.Lists.{Filled}
use Rattle.shelf_write.proofs.put_fresh.Given as goal

abbrev pub invariant-loop-i : goal.invariant-loop-i
invariant-loop-i l = (length l.words ≡ 96) × (length l.initial.words ≡ 96) × Filled l.words l.i fresh_number
