-- Beginning a shelf on lent numbers: 17, and then 18 for numbers that no record goes into.
use Rattle.std.specs.Prelude.{ℕ, List, [], ◌∷◌, not, eqb, length, Result, Ok, Err}
use Rattle.refusal.specs.declared.Refusal.{Refusal}
use Rattle.refusal.specs.declared.Refusal.TheVariants.{StoreSize, ShelfSpoiled}
use Rattle.base.specs.Choice.{Row, ◌if◌, first}
use Rattle.base.specs.Bytes.{zeros}
use Rattle.berth.specs.Berth.{store_size}
use Rattle.shelf.specs.Layout.{count}
use Rattle.shelf_write.specs.Writes.{fresh_words}

-- what a call leaves: the answer, the numbers, the store
pub record Leaving : Type 0 where
  pub said : Result (Unit {0}) Refusal
  pub words : List ℕ
  pub store : List ℕ

abbrev pub leaving : Result (Unit {0}) Refusal → List ℕ → List ℕ → Leaving
leaving said words store = record { said = said; words = words; store = store }

abbrev pub unbegun : List ℕ → List ℕ → List Row
unbegun words store = StoreSize if not (eqb (length store) store_size) ∷ ShelfSpoiled if not (eqb (length words) count) ∷ []

unfoldable pub begin_on : List ℕ → List ℕ → Leaving
begin_on words store =
    first (λ r. leaving (Err r) words store) (unbegun words store) (leaving (Ok tt) fresh_words (zeros store_size))
