-- Releasing, held against document 01.
--   release-exactly, release-none    17, 18 and 14 are given exactly when their words are so, and none exactly when none is so
--   release-answered                 what a release does then
--   release-untouched                a refused release leaves record and store as they were
--   released-zeros, released-spared  the sixteen berths of the place are zeros, and every other berth is as it was
--   release-same                     what a free place happens to hold never matters
use mathlib.Core.Path.{◌≡◌, refl, sym, ap, ◌∙◌}
use mathlib.Core.Bool.{true}
use mathlib.Core.List.{List}
use mathlib.Core.Logic.Iff
use mathlib.Core.Logic.{◌↔◌, ⊎_elim}
use Prim.Native.Nat.{ℕ, ◌<◌, ◌≤◌}
use native.Mathlib.Omega.{arith}
use lib.Dec.{ltb}
use lib.ListN.{length, get_or-eq_default}
use lib.Seq.{get_or-set_same, get_or-set_other}
use borrow.Author.Tests.{ltb-true, ltb-false}
use Rattle.base.specs.Bytes.{zeros}
use Rattle.base.specs.Tables.{None, above, said}
use Rattle.base.proofs.Cases.{by, unlike, same_or}
use Rattle.base.proofs.Tables.{given, passed, silent, among}
use Rattle.berth.specs.Berth.{berth_size, sections, places, standing}
use Rattle.berth.proofs.Berths.{where-picked, where-spared}
use Rattle.shelf.specs.Record.{Same, free_place, place_at, with_place, place_of}
use Rattle.key.specs.declared.Key.{Key}
use Rattle.shelf.specs.Record.{Place}
use Rattle.shelf.specs.Record.{Shelf}
use Rattle.shelf_ask.specs.Ask.{unasked, holding_of}
use Rattle.std.specs.Prelude.{Ok, Err}
use Rattle.refusal.specs.Refusal.{number_of}
use Rattle.refusal.specs.declared.Refusal.{Refusal}
use Rattle.shelf_ask.proofs.ExactlyWhen.{asked-table, asked-decided}
use Rattle.shelf_ask.proofs.Held.{held}
use Rattle.shelf_ask.proofs.Alike.{by-holding, holding-same}
use Rattle.shelf_release.specs.Release.{After, release_of}
use Rattle.shelf_release.proofs.Steps.{refuse, done, release-refused, release-done}

module _ (shelf : Shelf) (store : List ℕ) (key : Key) where
  pub release-exactly : (number : ℕ) → 0 < number
      → (number_of (release_of shelf store key).said ≡ number) ↔ (None (above number (asked-table shelf store key)) × said number (asked-table shelf store key))
  unfolding release_of
  release-exactly number p =
      given (refuse shelf store key) (λ a. number_of a.said) (λ k. refl) (unasked shelf store key) (done shelf store key (place_of shelf key))
      (asked-table shelf store key) (asked-decided shelf store key) refl number (omega arith)

  pub release-none : (number_of (release_of shelf store key).said ≡ 0) ↔ None (asked-table shelf store key)
  unfolding release_of
  release-none =
      Iff.trans
      (passed (refuse shelf store key) (λ a. number_of a.said) (λ k. refl) (unasked shelf store key) (done shelf store key (place_of shelf key))
      (asked-table shelf store key) (asked-decided shelf store key) 0 refl)
      (λ w. w.0, λ h. (h, refl))

  pub release-answered : None (asked-table shelf store key) → release_of shelf store key ≡ done shelf store key (place_of shelf key)
  unfolding release_of
  release-answered =
      silent (refuse shelf store key) (unasked shelf store key) (done shelf store key (place_of shelf key)) (asked-table shelf store key) (asked-decided shelf store key)

  pub release-untouched : (r : Refusal) → (release_of shelf store key).said ≡ Err r
      → ((release_of shelf store key).shelf ≡ shelf) × ((release_of shelf store key).store ≡ store)
  unfolding release_of
  release-untouched r e =
      among (refuse shelf store key) (λ a. a.said ≡ Err r → (a.shelf ≡ shelf) × (a.store ≡ store))
      (unasked shelf store key) (done shelf store key (place_of shelf key))
      (λ _. (refl, refl), (λ _. (refl, refl), (λ _. (refl, refl), tt)))
      (λ b. let z : ◌≡◌ {A = ℕ} 0 1 = cc in absurd (omega arith)) e

  module _ (p : ℕ) (e : holding_of shelf (length store) key ≡ Ok p) where
    pub released-zeros : (n : ℕ) → n < sections → standing (release_of shelf store key).store p n berth_size ≡ zeros berth_size
    released-zeros n h =
        let w = held shelf (length store) key p e in
        ap (λ a. standing a.store p n berth_size) (release-done shelf store key p e)
        ∙ where-picked (λ _. true) store w.whole p w.place sections (omega arith) n h refl

    pub released-spared : (q m count : ℕ) → m < sections → (p ≡ q → ⊥) → count ≤ berth_size
        → standing (release_of shelf store key).store q m count ≡ standing store q m count
    released-spared q m count h other l =
        let w = held shelf (length store) key p e in
        ap (λ a. standing a.store q m count) (release-done shelf store key p e)
        ∙ where-spared (λ _. true) store w.whole p w.place sections (omega arith) q m count h (λ r _ _. other r) l

-- a taken place is one of the list
there : (shelf : Shelf) (p : ℕ) → (place_at shelf p).taken ≡ true → p < length shelf.places
there shelf p t =
    by (ltb p (length shelf.places))
    (λ y. ltb-true _ _ y)
    (λ f. absurd (unlike (sym t ∙ ap (λ x. x.taken) (get_or-eq_default shelf.places free_place (ltb-false _ _ f)))))

-- the same answer, the same store, and records with the same taken places
pub record Alike (x y : After) : Type 0 where
  pub said : x.said ≡ y.said
  pub shelf : Same x.shelf y.shelf
  pub store : x.store ≡ y.store

module _ (a b : Shelf) (s : Same a b) where
  -- both with the same place anew
  with-same : (p : ℕ) → p < length a.places → p < length b.places → (place : Place) → Same (with_place a p place) (with_place b p place)
  with-same p h l place =
      record {
        takes =
            λ q i.
            ⊎_elim
            (λ e. ap (λ x. x.taken) (at_place q e))
            (λ o. ap (λ x. x.taken) (at_other a q o) ∙ s.takes q i ∙ sym (ap (λ x. x.taken) (at_other b q o)))
            (same_or q p);
        equal =
            λ q i t.
            ⊎_elim
            (λ e. at_place q e)
            (λ o. at_other a q o ∙ s.equal q i (sym (ap (λ x. x.taken) (at_other a q o)) ∙ t) ∙ sym (at_other b q o))
            (same_or q p);
      }
    where
      at_other : (c : Shelf) (q : ℕ) → (q ≡ p → ⊥) → place_at (with_place c p place) q ≡ place_at c q
      at_other c q o = get_or-set_other c.places p q place free_place o

      at_place : (q : ℕ) → q ≡ p → place_at (with_place a p place) q ≡ place_at (with_place b p place) q
      at_place q e =
          ap (place_at (with_place a p place)) e ∙ get_or-set_same a.places p place free_place h
          ∙ sym (ap (place_at (with_place b p place)) e ∙ get_or-set_same b.places p place free_place l)

  pub release-same : (store : List ℕ) (key : Key) → Alike (release_of a store key) (release_of b store key)
  release-same store key =
      by-holding (holding_of a (length store) key)
      (λ p e.
      let i : p < places = (held a (length store) key p e).place in
      let t = (held a (length store) key p e).taken in
      rw (release-done a store key p e, release-done b store key p (sym (holding-same a b s key (length store)) ∙ e))
      (record {
        said = refl;
        shelf = with-same p (there a p t) (there b p (sym (s.takes p i) ∙ t)) free_place;
        store = refl;
      }))
      (λ n e.
      rw (release-refused a store key n e, release-refused b store key n (sym (holding-same a b s key (length store)) ∙ e))
      (record { said = refl; shelf = s; store = refl }))
