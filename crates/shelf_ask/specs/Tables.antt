-- Which tables are held: the table in a place. Order of refusal: 17, 18, 14, and 15 where a buffer has no room for its numbers. Document 01 has
-- no such question; its refusals are those of the other questions, and a place that there is not, or that is free, is 14.
use Rattle.std.specs.Prelude.{ℕ, ◌<◌, List, [], ◌∷◌, ◌++◌, ◌≡◌, false, not, ◌&&◌, ◌↔◌, ltb, Result, Ok, Err}
use Rattle.refusal.specs.Refusal.{number}
use Rattle.refusal.specs.declared.Refusal.{Refusal}
use Rattle.refusal.specs.declared.Refusal.TheVariants.{TableNotHeld}
use Rattle.base.specs.Choice.{Row, ◌if◌, first}
use Rattle.berth.specs.Berth.{places, store_size}
use Rattle.answers.specs.Answers.{Told, told}
use Rattle.tables.specs.declared.Table.{Table}
use Rattle.tables.specs.Numbers.{table_numbers}
use Rattle.shelf.specs.Record.{Place, Shelf, place_at, spoiled_of, Same}
use Rattle.shelf_ask.specs.Ask.{unlent_by}

-- the table of a place
abbrev pub place_table : Place → Table
place_table place =
    record {
      key = place.key;
      version = place.version;
      last = place.last;
      lengths = place.lengths;
    }

module _ (shelf : Shelf) (size p : ℕ) where
  abbrev pub untold : List Row
  untold = unlent_by shelf size ++ (TableNotHeld if not (ltb p places && (place_at shelf p).taken) ∷ [])

  -- the place where a table is in it, which is a step of the code's
  unfoldable pub taken_of : Result ℕ Refusal
  taken_of = first Err untold (Ok p)

  -- the number and the values of the answer
  unfoldable pub table_told : Told
  table_told = first (λ r. told (number r) []) untold (told 0 (table_numbers (place_table (place_at shelf p))))

-- so a host compares records: two that are not spoiled are equal exactly when each of the four places tells the same of both
abbrev pub SameTold : Type 0
SameTold =
    (a b : Shelf)
    → spoiled_of a ≡ false
    → spoiled_of b ≡ false
    → Same a b ↔ ((p : ℕ) → p < places → table_told a store_size p ≡ table_told b store_size p)
