-- Document 01, "The shelf file": loading. Order of refusal: 17, 18, the file's faults, 13, 9.
use Rattle.std.specs.Prelude.{ℕ, zero, suc, List, [], ◌∷◌, true, not, eqb, length, get_or, if◌then◌else◌, Result, Ok, Err}
use Rattle.refusal.specs.declared.Refusal.{Refusal}
use Rattle.refusal.specs.declared.Refusal.TheVariants.{NoFreePlace, KeyHeld, StoreSize, ShelfSpoiled}
use Rattle.base.specs.Choice.{◌if◌, first}
use Rattle.base.specs.Bytes.{part}
use Rattle.section.specs.declared.Header.{Header}
use Rattle.berth.specs.Berth.{sections, places, store_size, put}
use Rattle.shelf.specs.Record.{with_place, spoiled_of, place_of, free_of}
use Rattle.shelf.specs.Record.{Place}
use Rattle.shelf.specs.Record.{Shelf}
use Rattle.shelf.specs.Record.{key_of}
use Rattle.file.specs.Scan.{scan_of}
use Rattle.file.specs.declared.Table.{Table}

-- what a call leaves: the answer, the record, the store
pub record After : Type 0 where
  pub said : Result (Unit {0}) Refusal
  pub shelf : Shelf
  pub store : List ℕ

-- a place with the table of a file
abbrev pub loaded_place : Header → List ℕ → Place
loaded_place h lengths =
    record { taken = true; key = key_of h; version = h.version; last = h.last; lengths = lengths }

-- the store after those of the file's sections that are among the first k numbers are stored in place p, each from where it
-- starts in the file
unfoldable pub stored_below : ℕ → List ℕ → List ℕ → List ℕ → List ℕ → ℕ → List ℕ
stored_below zero file starts lengths store p = store
stored_below (suc k) file starts lengths store p =
    if eqb (get_or lengths k 0) 0 then stored_below k file starts lengths store p
    else put (stored_below k file starts lengths store p) p k (part file (get_or starts k 0) (get_or lengths k 0))

module _ (shelf : Shelf) (store file : List ℕ) where
  -- a refused call gives the refusal, and leaves record and store as they were
  abbrev pub no : Refusal → After
  no r = record { said = Err r; shelf = shelf; store = store }

  -- 13, 9; else the lowest free place gets the table, and the berth of each of its sections that section and zeros
  unfoldable pub table_of : Table → After
  table_of table =
      first no
      (KeyHeld if not (eqb (place_of shelf (key_of table.header)) places) ∷ NoFreePlace if eqb (free_of shelf) places ∷ [])
      (record {
        said = Ok tt;
        shelf = with_place shelf (free_of shelf) (loaded_place table.header table.lengths);
        store = stored_below sections file table.starts table.lengths store (free_of shelf);
      })

  -- the file's table, or its first fault from the left
  abbrev pub answered : Result Table Refusal → After
  answered (Ok table) = table_of table
  answered (Err r) = no r

  -- what a load leaves: 17, 18, then what the file says
  unfoldable pub load_of : After
  load_of =
      first no
      (StoreSize if not (eqb (length store) store_size) ∷ ShelfSpoiled if spoiled_of shelf ∷ [])
      (answered (scan_of file))
