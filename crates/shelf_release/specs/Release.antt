-- Document 01, "The shelf": releasing a table frees its place and zeroes its 16 berths. Order of refusal: 17, 18, 14.
use Rattle.std.specs.Prelude.{ℕ, List, true, Result, Ok, Err}
use Rattle.refusal.specs.declared.Refusal.{Refusal}
use Rattle.base.specs.Choice.{first}
use Rattle.berth.specs.Berth.{sections, wiped_where}
use Rattle.shelf.specs.Record.{free_place, with_place, place_of}
use Rattle.key.specs.declared.Key.{Key}
use Rattle.shelf.specs.Record.{Shelf}
use Rattle.shelf_ask.specs.Ask.{unasked}

-- what a call leaves: the answer, the record, the store
pub record After : Type 0 where
  pub said : Result (Unit {0}) Refusal
  pub shelf : Shelf
  pub store : List ℕ

unfoldable pub release_of : Shelf → List ℕ → Key → After
release_of shelf store key =
    first (λ r. record { said = Err r; shelf = shelf; store = store })
    (unasked shelf store key)
    (record {
      said = Ok tt;
      shelf = with_place shelf (place_of shelf key) free_place;
      store = wiped_where (λ _. true) sections store (place_of shelf key);
    })
