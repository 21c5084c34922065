-- What is written into lent numbers, and the record that they then are.
--   held-put, head-put, freed-put      in 96 numbers the calls write what they name
--   held-lent, head-lent, begun-lent, freed-lent, fresh-lent      the record after each
use mathlib.Core.Path.{◌≡◌, refl, sym, ap, ◌∙◌}
use mathlib.Core.Bool.{true}
use mathlib.Core.List.{List}
use Prim.Native.Nat.{ℕ, ◌<◌, ◌≤◌}
use native.Mathlib.Omega.{arith}
use lib.ListN.{length}
use lib.Seq.{get_or-set_same, set-set}
use borrow.Author.Tests.{eq-eqb, lt-ltb}
use Rattle.shelf.specs.Record.{Place, Shelf, free_place, empty_table, with_length, fresh, place_at, with_place}
use Rattle.key.specs.declared.Key.{Key}
use Rattle.key.proofs.Keys.{Proper}
use Rattle.shelf.specs.Layout.{taken_in, shelf_in, shelf_at}
use Rattle.shelf_write.specs.Writes.{held_in, freed_in, head_in, fresh_words}
use Rattle.shelf_write.specs.Calls.{held_put, head_put, freed_put, fresh_put}
use Rattle.shelf.proofs.Numbers.{at_count, place_at_lem}
use Rattle.shelf_write.proofs.Writes.{held-shelf, head-shelf, head-taken, freed-shelf, fresh-shelf, held-length, row-length, rest-length, fresh-length}

-- the record has its four places
pub four : (words : List ℕ) → length (shelf_in words).places ≡ 4
unfolding shelf_in
four words = refl

pub with_at : (shelf : Shelf) (p : ℕ) (x : Place) → p < length shelf.places → place_at (with_place shelf p x) p ≡ x
with_at shelf p x h = get_or-set_same shelf.places p x free_place h

pub with-with : (shelf : Shelf) (p : ℕ) (x y : Place) → with_place (with_place shelf p x) p y ≡ with_place shelf p y
with-with shelf p x y = ap (λ l. record { places = l }) (set-set shelf.places p x y)

module _ (words : List ℕ) (fits : length words ≡ 96) where
  pub fresh-put : fresh_put words ≡ fresh_words
  unfolding fresh_put
  fresh-put = rw (eq-eqb (length words) 96 fits)

  module _ (p : ℕ) (hp : p < 4) where
    pub freed-put : freed_put words p ≡ freed_in words p
    unfolding freed_put
    freed-put = rw (eq-eqb (length words) 96 fits, lt-ltb p 4 hp)

    pub head-put : (key : Key) (version last : ℕ) → head_put words p key version last ≡ head_in words p key version last
    unfolding head_put
    head-put key version last = rw (eq-eqb (length words) 96 fits, lt-ltb p 4 hp)

    pub head-fits : (key : Key) (version last : ℕ) → length (head_in words p key version last) ≡ 96
    head-fits key version last = rest-length _ p key ∙ (row-length words p _ key.extension version last 0 ∙ fits)

    pub freed-lent : shelf_at (freed_in words p) ≡ with_place (shelf_at words) p free_place
    freed-lent =
        at_count (freed_in words p) (row-length words p p 0 0 0 1 ∙ fits)
        ∙ freed-shelf words fits p hp
        ∙ ap (λ s. with_place s p free_place) (sym (at_count words fits))

    module _ (n : ℕ) (hn : n < 16) (size : ℕ) where
      pub held-put : held_put words p n size ≡ held_in words p n size
      unfolding held_put
      held-put = rw (eq-eqb (length words) 96 fits, lt-ltb p 4 hp, lt-ltb n 16 hn)

      pub held-lent :
          1 ≤ size
          → taken_in words p ≡ true
          → shelf_at (held_in words p n size) ≡ with_place (shelf_at words) p (with_length (place_at (shelf_at words) p) n size)
      held-lent hs t =
          at_count (held_in words p n size) (held-length words p n size ∙ fits)
          ∙ held-shelf words fits p hp n hn size hs t
          ∙ rw (at_count words fits, place_at_lem words p hp)

    module _ (key : Key) (version last : ℕ) (ht : key.table < 256) (proper : Proper key) where
      abbrev head : List ℕ
      head = head_in words p key version last

      pub head-lent : shelf_at head ≡ with_place (shelf_at words) p (empty_table key version last)
      head-lent =
          at_count head (head-fits key version last)
          ∙ head-shelf words fits p hp key version last ht proper
          ∙ ap (λ s. with_place s p (empty_table key version last)) (sym (at_count words fits))

      pub head-now : place_at (shelf_at head) p ≡ empty_table key version last
      head-now =
          rw (head-lent, at_count words fits)
          (with_at (shelf_in words) p (empty_table key version last) (omega (arith, four words)))

pub fresh-lent : shelf_at fresh_words ≡ fresh
fresh-lent = at_count fresh_words fresh-length ∙ fresh-shelf

-- a table that begins with one section
pub begun-lent :
    (words : List ℕ)
    → length words ≡ 96
    → (p : ℕ)
    → p < 4
    → (key : Key)
    (version last n size : ℕ)
    → key.table < 256
    → Proper key
    → n < 16
    → 1 ≤ size
    → shelf_at (held_in (head_in words p key version last) p n size)
    ≡ with_place (shelf_at words) p (with_length (empty_table key version last) n size)
begun-lent words fits p hp key version last n size ht proper hn hs =
    let h = head_in words p key version last in
    held-lent h (head-fits words fits p hp key version last) p hp n hn size hs (head-taken words fits p hp key version last ht)
    ∙ rw (head-now words fits p hp key version last ht proper, head-lent words fits p hp key version last ht proper)
    (with-with (shelf_at words) p (empty_table key version last) (with_length (empty_table key version last) n size))
