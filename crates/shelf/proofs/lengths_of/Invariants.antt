-- `shelf::lengths_of` meets its promise: length by length.
use mathlib.Core.Path.{◌≡◌}
use lib.ListN.{length}
use Rattle.shelf.specs.Calls.{length_among}
use Rattle.shelf.proofs.Lists.{Filled}
use Rattle.shelf.proofs.lengths_of.Given as goal

abbrev pub invariant-loop-n : goal.invariant-loop-n
invariant-loop-n l = (length l.lengths ≡ 16) × Filled l.lengths l.n (length_among l.words l.p)
