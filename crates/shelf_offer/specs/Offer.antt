-- Document 01, "Offering a sound section": the answer, the next record and the store, for every record of four places, store and payload.
use Rattle.std.specs.Prelude.{ℕ, List, not, eqb, length, if◌then◌else◌, Result, Ok, Err}
use Rattle.base.specs.Bytes.{same}
use Rattle.refusal.specs.declared.Refusal.{Refusal}
use Rattle.refusal.specs.declared.Refusal.TheVariants.{StoreSize, ShelfSpoiled, NoFreePlace, Differs}
use Rattle.section.specs.Section.{read_of}
use Rattle.section.specs.declared.Header.{Header}
use Rattle.berth.specs.Berth.{sections, places, store_size, put, wiped_where, standing}
use Rattle.shelf.specs.Record.{key_of, empty_table, with_length, place_at, with_place, length_at, holds, spoiled_of, place_of, free_of}
use Rattle.shelf.specs.Record.{Place}
use Rattle.shelf.specs.Record.{Shelf}
use Rattle.shelf_offer.specs.declared.Offered.{Offered}

-- what a call leaves: the answer, the record, the store
pub record After : Type 0 where
  pub said : Result Offered Refusal
  pub shelf : Shelf
  pub store : List ℕ

-- a place with the one section that begins its table
abbrev pub begun_place : Header → ℕ → Place
begun_place h size = with_length (empty_table (key_of h) h.version h.last) h.number size

-- a place with one section more
abbrev pub added_place : Place → Header → ℕ → Place
added_place place h size = with_length place h.number size

module _ (shelf : Shelf) (store payload : List ℕ) where
  -- a refused call returns the refusal alone
  abbrev pub no : Refusal → After
  no r = record { said = Err r; shelf = shelf; store = store }

  -- key not held: it begins the table, in the lowest free place; 9 where there is none
  unfoldable pub new_of : Header → After
  new_of h =
      if eqb (free_of shelf) places then no NoFreePlace
      else
      record {
        said = Ok Offered.Began;
        shelf = with_place shelf (free_of shelf) (begun_place h (length payload));
        store = put store (free_of shelf) h.number payload;
      }

  -- key held in place p
  unfoldable pub held_of : ℕ → Header → After
  held_of p h =
      -- other version: all held sections go, their berths are zeroed, and this one begins it again
      if not (eqb (place_at shelf p).version h.version) then
      record {
        said = Ok Offered.BeganAgain;
        shelf = with_place shelf p (begun_place h (length payload));
        store = put (wiped_where (holds (place_at shelf p)) sections store p) p h.number payload;
      }
      -- same version with another last number is 10, also where the berth has the payload's bytes, which in a store lent back as left it has not
      else (if not (eqb (place_at shelf p).last h.last) then no Differs
      -- number not held: it is added
      else (if not (holds (place_at shelf p) h.number) then
      record {
        said = Ok Offered.Added;
        shelf = with_place shelf p (added_place (place_at shelf p) h (length payload));
        store = put store p h.number payload;
      }
      -- same bytes throughout: a repeat, nothing changes
      else (if same (standing store p h.number (length_at (place_at shelf p) h.number)) payload then
      record { said = Ok Offered.Repeat; shelf = shelf; store = store }
      -- other bytes at a held number: 10
      else no Differs)))

  unfoldable pub sound_of : Header → After
  sound_of h = if eqb (place_of shelf (key_of h)) places then new_of h else held_of (place_of shelf (key_of h)) h

  -- a section that is not sound is refused by its own number
  abbrev pub reading_of : Result Header Refusal → After
  reading_of (Ok h) = sound_of h
  reading_of (Err r) = no r

  -- order: 17, 18, 1 to 8, 46, 9, 10
  unfoldable pub offer_of : After
  offer_of =
      if not (eqb (length store) store_size) then no StoreSize else (if spoiled_of shelf then no ShelfSpoiled else reading_of (read_of payload))
