-- `shelf::first_alike` meets its promise: the search for the lowest head with the number.
use mathlib.Core.Path.{◌≡◌}
use lib.Dec.{eqb}
use Rattle.base.specs.Below.{lowest}
use Rattle.shelf.specs.Layout.{key_number}
use Rattle.shelf.proofs.first_alike.Given as goal

abbrev pub invariant-loop-p : goal.invariant-loop-p
invariant-loop-p l = lowest l.p (λ k. eqb (key_number l.words k) l.number) ≡ l.p
