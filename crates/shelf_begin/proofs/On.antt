-- Beginning a shelf on lent numbers.
--   begin-17, begin-18, begun      what the code leaves
--   begin-done                     96 numbers and 65,536 bytes are a fresh shelf's
--   begin-unique                   two answers that keep the promise are equal, with the numbers and the stores that they leave
use mathlib.Core.Path.{◌≡◌, sym, ap, ◌∙◌}
use mathlib.Core.List.{List}
use Prim.Native.Nat.{ℕ}
use lib.ListN.{length}
use borrow.Author.Tests.{eq-eqb, ne_eqb}
use Rattle.base.specs.Bytes.{zeros}
use Rattle.berth.specs.Berth.{store_size}
use Rattle.shelf.specs.Record.{fresh}
use Rattle.shelf.specs.Layout.{count, shelf_at}
use Rattle.shelf_write.specs.Writes.{fresh_words}
use Rattle.shelf_write.specs.Calls.{fresh_put}
use Rattle.shelf_write.proofs.Lent.{fresh-put, fresh-lent}
use Rattle.std.specs.Prelude.{Result, Ok, Err}
use Rattle.refusal.specs.declared.Refusal.{Refusal}
use Rattle.refusal.specs.declared.Refusal.TheVariants.{StoreSize, ShelfSpoiled}
use Rattle.shelf_begin.specs.On.{leaving, begin_on}

module _ (words store : List ℕ) where
  pub begin-17 : (length store ≡ store_size → ⊥) → leaving (Err StoreSize) words store ≡ begin_on words store
  unfolding begin_on
  begin-17 d = rw (ne_eqb (length store) store_size d)

  module _ (w : length store ≡ store_size) where
    pub begin-18 : (length words ≡ count → ⊥) → leaving (Err ShelfSpoiled) words store ≡ begin_on words store
    unfolding begin_on
    begin-18 d = rw (eq-eqb (length store) store_size w, ne_eqb (length words) count d)

    module _ (n : length words ≡ count) where
      pub begin-done : begin_on words store ≡ leaving (Ok tt) fresh_words (zeros store_size)
      unfolding begin_on
      begin-done = rw (eq-eqb (length store) store_size w, eq-eqb (length words) count n)

      pub begun : {left kept : List ℕ} → left ≡ zeros store_size → kept ≡ fresh_put words → leaving (Ok tt) kept left ≡ begin_on words store
      begun l k = rw (l, k, fresh-put words n) (sym begin-done)

      pub begin-shelf : shelf_at (begin_on words store).words ≡ fresh
      begin-shelf = ap (λ a. shelf_at a.words) begin-done ∙ fresh-lent

  pub begin-unique :
      (x y : Result (Unit {0}) Refusal)
      (held kept left stored : List ℕ)
      → leaving x held left ≡ begin_on words store
      → leaving y kept stored ≡ begin_on words store
      → (x ≡ y) × (held ≡ kept) × (left ≡ stored)
  begin-unique x y held kept left stored p q =
      let e : leaving x held left ≡ leaving y kept stored = p ∙ sym q in
      (ap (λ z. z.said) e, ap (λ z. z.words) e, ap (λ z. z.store) e)
