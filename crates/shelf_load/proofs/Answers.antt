-- The answer of a load, by what was tested.
--   table-13, table-9, table_done             of a file that holds a table
--   load-17, load-18, load-fault, load-table  of any file
--   scanned-within                            the sections of an accepted file lie in it, fit their berths, and have no number above its last
use mathlib.Core.Path.{◌≡◌, refl, sym, ap, ◌∙◌}
use mathlib.Core.Bool.{true, false}
use mathlib.Core.List.{List}
use mathlib.Core.Logic.{⊎_elim, inl, inr}
use Prim.Native.Nat.{ℕ, ◌<◌, ◌≤◌}
use native.Mathlib.Omega.{arith}
use lib.Dec.{eqb}
use lib.ListN.{length}
use borrow.Author.Tests.{eq-eqb, ne_eqb, eqb-true}
use Rattle.base.specs.Choice.{first}
use Rattle.base.proofs.Cases.{and_right}
use Rattle.section.specs.declared.Header.{Header}
use Rattle.berth.specs.Berth.{sections, places, store_size}
use Rattle.shelf.specs.Record.{spoiled_of, place_of, free_of}
use Rattle.key.specs.declared.Key.{Key}
use Rattle.key.specs.Key.{same_key}
use Rattle.shelf.specs.Layout.{count, shelf_at}
use Rattle.shelf.specs.Calls.{place_among, free_among}
use Rattle.shelf_write.specs.Calls.{head_put}
use Rattle.shelf.proofs.Numbers.{at_count, among-place, among-free}
use Rattle.shelf_write.proofs.Lent.{head-put}
use Rattle.shelf.specs.Record.{key_of}
use Rattle.file.specs.Scan.{scan_of}
use Rattle.file.specs.declared.Table.{Table}
use Rattle.file.specs.Layout.{same_table}
use Rattle.file.proofs.Found.{sound-number}
use Rattle.file.proofs.Held.{Lies, held}
use Rattle.shelf_load.specs.Steps.{Within, table_on}
use Rattle.shelf_load.specs.Load.{stored_below, table_of, answered, load_of}
use Rattle.std.specs.Prelude.{Result, Ok, Err}
use Rattle.refusal.specs.declared.Refusal.{Refusal}
use Rattle.refusal.specs.declared.Refusal.TheVariants.{NoFreePlace, KeyHeld, StoreSize, ShelfSpoiled}
use Rattle.shelf_load.specs.On.{Leaving, leaving, held_below, words_by, load_on}

-- two sections of one table have one last number
one_last : (a b : Header) → same_table a b ≡ true → a.last ≡ b.last
unfolding same_table
one_last a b e =
    eqb-true _ _ (and_right (eqb a.version b.version) _ (and_right (same_key a.key b.key) _ e))

-- no number is above the last
low : {file : List ℕ} {first : Header} {n start size : ℕ} → Lies file first n start size → n ≤ first.last
low {first = first} l =
    let k : (l.header.number ≤ l.header.last) × (l.header.last ≤ 15) = sound-number _ l.header l.sound in
    let e : first.last ≡ l.header.last = one_last first l.header l.shares in
    omega (arith, k.0, e, l.number)

pub scanned-within : (file : List ℕ) (table : Table) → scan_of file ≡ Ok table → Within file table.starts table.lengths table.header.last
unfolding Within
scanned-within file table e =
    let h = held file table e in
    (omega (arith, h.last), λ n. ⊎_elim (λ z. inl z) (λ l. inr (l.inside, l.high, low l)) (h.each n))

module _ (words store file : List ℕ) where
  module _ (n : length words ≡ count) (table : Table) (at : ℕ) (key : Key) (k : key ≡ key_of table.header) (a : at ≡ place_among words key) where
    abbrev h : Header
    h = table.header

    place_is : at ≡ place_of (shelf_at words) (key_of h)
    place_is = a ∙ ap (place_among words) k ∙ among-place words (key_of h) n ∙ ap (λ s. place_of s (key_of h)) (sym (at_count words n))

    pub table-13 : (at ≡ places → ⊥) → leaving (Err KeyHeld) words store ≡ table_on words store file table
    unfolding table_of table_on
    table-13 d = rw (← place_is, ne_eqb at places d)

    module _ (u : at ≡ places) (p : ℕ) (f : p ≡ free_among words) where
      free-is : p ≡ free_of (shelf_at words)
      free-is = f ∙ among-free words n ∙ ap free_of (sym (at_count words n))

      pub table-9 : p ≡ places → leaving (Err NoFreePlace) words store ≡ table_on words store file table
      unfolding table_of table_on
      table-9 d = rw (← place_is, eq-eqb at places u, ← free-is, eq-eqb p places d)

      pub table_done :
          {left head kept : List ℕ}
          → (p ≡ places → ⊥)
          → p < places
          → left ≡ stored_below sections file table.starts table.lengths store p
          → head ≡ head_put words p key h.version h.last
          → kept ≡ held_below sections head p table.lengths
          → leaving (Ok tt) kept left ≡ table_on words store file table
      unfolding table_of table_on
      table_done d l q e g =
          let e' = e ∙ ap (λ x. head_put words p x h.version h.last) k ∙ head-put words n p l (key_of h) h.version h.last in
          rw (q, g, e') (rw (← place_is, eq-eqb at places u, ← free-is, ne_eqb p places d))

  -- a refusal writes no numbers, whatever the scan found
  unwritten : (r : Refusal) (s : Result Table Refusal) → words_by words (free_of (shelf_at words)) s (Err r) ≡ words
  unwritten r (Ok table) = refl
  unwritten r (Err q) = refl

  pub load-17 : (length store ≡ store_size → ⊥) → leaving (Err StoreSize) words store ≡ load_on words store file
  unfolding load_of load_on
  load-17 d = rw (ne_eqb (length store) store_size d) (ap (λ w. leaving (Err StoreSize) w store) (sym (unwritten StoreSize (scan_of file))))

  module _ (w : length store ≡ store_size) where
    pub load-18 : spoiled_of (shelf_at words) ≡ true → leaving (Err ShelfSpoiled) words store ≡ load_on words store file
    unfolding load_of load_on
    load-18 s = rw (eq-eqb (length store) store_size w, s) (ap (λ w. leaving (Err ShelfSpoiled) w store) (sym (unwritten ShelfSpoiled (scan_of file))))

    module _ (s : spoiled_of (shelf_at words) ≡ false) where
      read : load_of (shelf_at words) store file ≡ answered (shelf_at words) store file (scan_of file)
      unfolding load_of
      read = rw (eq-eqb (length store) store_size w, s)

      pub load-fault : {r : Refusal} → Err r ≡ scan_of file → leaving (Err r) words store ≡ load_on words store file
      unfolding load_on
      load-fault e = rw (read, ← e)

      pub load-table : {x : Leaving} (table : Table) → scan_of file ≡ Ok table → x ≡ table_on words store file table → x ≡ load_on words store file
      unfolding load_on table_on
      load-table table e q = q ∙ rw (read, e)
