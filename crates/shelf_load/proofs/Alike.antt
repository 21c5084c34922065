-- What a free place happens to hold never matters: loads of one file on equal records get the same answer, leave the same store and
-- equal records.
--   Alike         the same answer, the same store, and equal records
--   load_same     so of every file and every store
use mathlib.Core.Path.{◌≡◌, refl}
use mathlib.Core.List.{List}
use Prim.Native.Nat.{ℕ}
use native.Mathlib.Omega.{arith}
use lib.Dec.{eqb}
use lib.ListN.{length}
use borrow.Author.Tests.{eqb-false}
use Rattle.base.proofs.Cases.{by}
use Rattle.berth.specs.Berth.{places, store_size}
use Rattle.shelf.specs.Record.{spoiled_of, place_of, free_of, Same}
use Rattle.shelf.specs.Record.{Shelf}
use Rattle.shelf.proofs.Equal.{Four, same-spoiled, same_place, same-free, same-with}
use Rattle.shelf.proofs.Find.{free-le}
use Rattle.shelf.specs.Record.{key_of}
use Rattle.file.specs.Scan.{scan_of}
use Rattle.std.specs.Prelude.{Result, Ok, Err}
use Rattle.refusal.specs.declared.Refusal.{Refusal}
use Rattle.refusal.specs.declared.Refusal.TheVariants.{NoFreePlace, KeyHeld, StoreSize, ShelfSpoiled}
use Rattle.file.specs.declared.Table.{Table}
use Rattle.shelf_load.specs.Load.{After, loaded_place, no, table_of, answered, load_of}

pub record Alike (x y : After) : Type 0 where
  pub said : x.said ≡ y.said
  pub store : x.store ≡ y.store
  pub shelf : Same x.shelf y.shelf

module _ (a b : Shelf) (s : Same a b) (fa : Four a) (fb : Four b) (store file : List ℕ) where
  same-no : (r : Refusal) → Alike (no a store file r) (no b store file r)
  same-no r = record { said = refl; store = refl; shelf = s }

  same-table : (table : Table) → Alike (table_of a store file table) (table_of b store file table)
  unfolding table_of
  same-table table =
      let h = table.header in
      rw (← same_place a b s (key_of h), ← same-free a b s)
      (by (eqb (place_of a (key_of h)) places)
      (λ k.
      by (eqb (free_of a) places)
      (λ f. rw (k, f) (same-no NoFreePlace))
      (λ f.
      let n : free_of a ≡ places → ⊥ = eqb-false _ _ f in
      rw (k, f)
      (record {
        said = refl;
        store = refl;
        shelf = same-with a b s fa fb (free_of a) (omega (arith, free-le a)) (loaded_place h table.lengths);
      })))
      (λ k. rw k (same-no KeyHeld)))

  same-answered : (r : Result Table Refusal) → Alike (answered a store file r) (answered b store file r)
  same-answered (Ok table) = same-table table
  same-answered (Err r) = same-no r

  pub load_same : Alike (load_of a store file) (load_of b store file)
  unfolding load_of
  load_same =
      rw (← same-spoiled a b s)
      (by (eqb (length store) store_size)
      (λ w.
      by (spoiled_of a)
      (λ t. rw (w, t) (same-no ShelfSpoiled))
      (λ t. rw (w, t) (same-answered (scan_of file))))
      (λ w. rw w (same-no StoreSize)))
