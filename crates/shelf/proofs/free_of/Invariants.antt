-- `shelf::free_of` meets its promise: the search for the lowest place that is free.
use mathlib.Core.Path.{◌≡◌}
use mathlib.Core.Bool.{not}
use lib.ListN.{length}
use Rattle.base.specs.Below.{lowest}
use Rattle.shelf.specs.Record.{place_at}
use Rattle.shelf.specs.Layout.{shelf_in}
use Rattle.shelf.proofs.free_of.Given as goal

abbrev pub invariant-loop-free : goal.invariant-loop-free
invariant-loop-free l = (length l.words ≡ 96) × (lowest l.free (λ k. not (place_at (shelf_in l.words) k).taken) ≡ l.free)
