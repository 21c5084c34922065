-- Document 01, "The shelf": "A fresh shelf has four free places and a zeroed store."
use Rattle.std.specs.Prelude.{ℕ, List, [], ◌∷◌, not, eqb, length, Result, Ok, Err}
use Rattle.refusal.specs.declared.Refusal.{Refusal}
use Rattle.refusal.specs.declared.Refusal.TheVariants.{StoreSize}
use Rattle.base.specs.Choice.{Row, ◌if◌, first}
use Rattle.base.specs.Bytes.{zeros}
use Rattle.berth.specs.Berth.{store_size}
use Rattle.shelf.specs.Record.{fresh}
use Rattle.shelf.specs.Record.{Shelf}

-- what a call leaves: the answer, the record, the store
pub record After : Type 0 where
  pub said : Result (Unit {0}) Refusal
  pub shelf : Shelf
  pub store : List ℕ

-- 17: a lent store not 65,536 bytes; it stays as it was. The record is fresh in either case
abbrev pub faults : List ℕ → List Row
faults store = StoreSize if not (eqb (length store) store_size) ∷ []

unfoldable pub begin_of : List ℕ → After
begin_of store =
    first
    (λ r. record { said = Err r; shelf = fresh; store = store })
    (faults store)
    (record { said = Ok tt; shelf = fresh; store = zeros store_size })
