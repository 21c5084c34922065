-- `shelf::place_of_list` meets its promise: the search for the lowest place that has the key.
use mathlib.Core.Path.{◌≡◌}
use Rattle.base.specs.Below.{lowest}
use Rattle.shelf.specs.Record.{place_at, has_key}
use Rattle.shelf.specs.Layout.{shelf_in}
use Rattle.shelf.proofs.place_of_list.Given as goal

abbrev pub invariant-loop-p : goal.invariant-loop-p
invariant-loop-p l = lowest l.p (λ k. has_key (place_at (shelf_in l.words) k) l.key) ≡ l.p
