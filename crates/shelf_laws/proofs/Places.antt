-- Laws of the shelf's record.
--   has-key, its_key, is-taken, has-not, same-owner   whose table is in a place
--   at_same, at_other, formed-with                    a record with another place
--   one_key                                           in an unspoiled record no key stands twice
--   placed, held_at, unheld, not-held, place-of, place_same    where a key is held
--   free-le, free-at, none_free                       the free place
--   Bounded, bounded, right                           a taken place is right when its numbers are in their bounds
--   unspoiled-with                                    another place keeps the record unspoiled
use mathlib.Core.Path.{◌≡◌, sym, ap, subst, fun_ext, ◌∙◌}
use mathlib.Core.Bool.{true, false, not}
use mathlib.Core.Logic.{⊎_elim, inl, inr}
use Prim.Native.Nat.{ℕ, ◌<◌, ◌≤◌}
use native.Mathlib.Nat.{eq-or-lt_of_le}
use native.Mathlib.Omega.{arith}
use lib.Dec.{ltb, eqb}
use lib.ListN.{length, length-set}
use lib.Seq.{get_or-set_same, get_or-set_other}
use borrow.Author.Tests.{ltb-true, ltb-false, eqb-false, ne_eqb, not-true, not-false}
use Rattle.base.specs.Below.{lowest}
use Rattle.base.proofs.Cases.{by, same_or, unlike, and_left, and_right}
use Rattle.base.proofs.Below.{lowest-le, lowest-holds, lowest-below, lowest-all}
use Rattle.base.proofs.Tables.{fails, denied}
use Rattle.berth.specs.Berth.{places, sections, berth_size}
use Rattle.shelf.specs.Record.{free_place, place_at, with_place, length_at, holds, spoiled_of, has_key, place_of, free_of}
use Rattle.key.specs.Key.{same_key}
use Rattle.key.specs.declared.Key.{Key}
use Rattle.key.proofs.Keys.{one_is, is_one_lem, same_key_lem, key-itself}
use Rattle.shelf.specs.Record.{Place}
use Rattle.shelf.specs.Record.{Shelf}
use Rattle.shelf.proofs.Words.{Held, Wrong, OneKey, Spoiled, decided, SoundPlace, one_place}
use Rattle.shelf_laws.specs.State.{Formed}

module _ (place : Place) (key : Key) where
  pub has-key : place.taken ≡ true → place.key ≡ key → has_key place key ≡ true
  unfolding has_key
  has-key t e = rw (t, e) (key-itself key)

  pub its_key : has_key place key ≡ true → place.key ≡ key
  unfolding has_key
  its_key e = same_key_lem _ _ (and_right place.taken (same_key place.key key) e)

  pub is-taken : has_key place key ≡ true → place.taken ≡ true
  unfolding has_key
  is-taken e = and_left place.taken (same_key place.key key) e

  pub has-not : place.taken ≡ false → has_key place key ≡ false
  unfolding has_key
  has-not t = rw t

pub same-owner : (a b : Place) (key : Key) → a.taken ≡ b.taken → a.key ≡ b.key → has_key a key ≡ has_key b key
unfolding has_key
same-owner a b key t e = rw (t, e)

-- a record with another place
module _ (shelf : Shelf) (formed : Formed shelf) (p : ℕ) (h : p < places) (place : Place) where
  pub at_same : place_at (with_place shelf p place) p ≡ place
  at_same = get_or-set_same shelf.places p place free_place (let f : length shelf.places ≡ 4 = formed.four in omega arith)

  pub at_other : (q : ℕ) → (q ≡ p → ⊥) → place_at (with_place shelf p place) q ≡ place_at shelf q
  at_other q ne = get_or-set_other shelf.places p q place free_place ne

  pub formed-with : length place.lengths ≡ sections → Formed (with_place shelf p place)
  formed-with l =
      record {
        four = length-set shelf.places p place ∙ formed.four;
        sixteen = λ q i.
            ⊎_elim (λ e. rw e (ap (λ x. length x.lengths) at_same ∙ l)) (λ ne. ap (λ x. length x.lengths) (at_other q ne) ∙ formed.sixteen q i) (same_or q p);
      }

-- where a key is held
module _ (shelf : Shelf) (key : Key) where
  pub placed : place_of shelf key ≤ places
  unfolding place_of
  placed = lowest-le (λ p. has_key (place_at shelf p) key) places

  pub held_at : place_of shelf key < places → has_key (place_at shelf (place_of shelf key)) key ≡ true
  unfolding place_of
  held_at = lowest-holds (λ p. has_key (place_at shelf p) key) places

  pub unheld : place_of shelf key ≡ places → (p : ℕ) → p < places → has_key (place_at shelf p) key ≡ false
  unfolding place_of
  unheld e p h = lowest-below (λ p. has_key (place_at shelf p) key) places p (rw e h)

  pub not-held : ((p : ℕ) → p < places → has_key (place_at shelf p) key ≡ false) → place_of shelf key ≡ places
  unfolding place_of
  not-held = lowest-all (λ p. has_key (place_at shelf p) key) places

  module _ (sound : spoiled_of shelf ≡ false) where
    apart : (p q : ℕ) → p < q → q < places → has_key (place_at shelf p) key ≡ true → has_key (place_at shelf q) key ≡ true → ⊥
    apart p q l h a b =
        let e : (place_at shelf p).key ≡ (place_at shelf q).key = its_key _ key a ∙ sym (its_key _ key b) in
        one_place shelf sound p q l h (is-taken _ key a) (is-taken _ key b) (is_one_lem _ _ e)

    pub one_key : (p q : ℕ) → p < places → q < places → has_key (place_at shelf p) key ≡ true → has_key (place_at shelf q) key ≡ true → p ≡ q
    one_key p q i j a b =
        by (ltb p q)
        (λ t. absurd (apart p q (ltb-true p q t) j a b))
        (λ t. ⊎_elim (λ e. sym e) (λ less. absurd (apart q p less i b a)) (eq-or-lt_of_le (ltb-false p q t)))

    pub place-of : (p : ℕ) → p < places → has_key (place_at shelf p) key ≡ true → place_of shelf key ≡ p
    place-of p h t =
        by (ltb (place_of shelf key) places)
        (λ u. let l : place_of shelf key < places = ltb-true _ _ u in one_key (place_of shelf key) p l h (held_at l) t)
        (λ u.
        let l : places ≤ place_of shelf key = ltb-false _ _ u in
        let m : place_of shelf key ≤ places = placed in
        absurd (unlike (sym t ∙ unheld (omega arith) p h)))

pub place_same : (a b : Shelf) (key : Key) → ((p : ℕ) → has_key (place_at a p) key ≡ has_key (place_at b p) key) → place_of a key ≡ place_of b key
unfolding place_of
place_same a b key e = ap (lowest places) (fun_ext e)

-- the free place
module _ (shelf : Shelf) where
  pub free-le : free_of shelf ≤ places
  unfolding free_of
  free-le = lowest-le (λ p. not (place_at shelf p).taken) places

  pub free-at : free_of shelf < places → (place_at shelf (free_of shelf)).taken ≡ false
  unfolding free_of
  free-at h = not-true _ (lowest-holds (λ p. not (place_at shelf p).taken) places h)

  pub none_free : free_of shelf ≡ places → (p : ℕ) → p < places → (place_at shelf p).taken ≡ true
  unfolding free_of
  none_free e p h = not-false _ (lowest-below (λ p. not (place_at shelf p).taken) places p (rw e h))

-- every held section has its number and its length in their bounds
abbrev pub Bounded : Place → Type 0
Bounded place = (n : ℕ) → n < sections → holds place n ≡ true → (n ≤ place.last) × (8 ≤ length_at place n) × (length_at place n ≤ berth_size)

holds-held : (place : Place) (n : ℕ) → holds place n ≡ true → Held place n
holds-held place n e = eqb-false _ _ (not-true (eqb (length_at place n) 0) e)

held-holds : (place : Place) (n : ℕ) → Held place n → holds place n ≡ true
held-holds place n h = rw (ne_eqb (length_at place n) 0 h)

pub bounded : (place : Place) → SoundPlace place → Bounded place
bounded place s n i h = let t = holds-held place n h in (s.number n i t, s.least n i t, s.most n i)

pub right : (place : Place) → place.version ≤ 31 → place.last ≤ 15 → Bounded place → (n : ℕ) → n < sections → holds place n ≡ true → ¬ (Wrong place)
right place v l b n h t =
    ⊎_elim
    (λ w. omega arith)
    (⊎_elim
    (λ w. omega arith)
    (⊎_elim
    (λ w.
    let c = b w.0 w.1 (held-holds place w.0 w.2.0) in
    let low : w.0 ≤ place.last = c.0 in
    let least : 8 ≤ length_at place w.0 = c.1 in
    let most : length_at place w.0 ≤ berth_size = c.2 in
    ⊎_elim (λ x. omega arith) (⊎_elim (λ x. omega arith) (λ x. omega arith)) w.2.1)
    (λ none. none (n, h, holds-held place n t))))

-- another place keeps the record unspoiled: one that is right if it is taken, and whose key stands in no other
module _ (shelf : Shelf) (formed : Formed shelf) (sound : spoiled_of shelf ≡ false) (p : ℕ) (h : p < places) (place : Place)
    (fine : place.taken ≡ true → ¬ (Wrong place))
    (only : place.taken ≡ true → (q : ℕ) → q < places → (q ≡ p → ⊥) → has_key (place_at shelf q) place.key ≡ false) where
  abbrev next : Shelf
  next = with_place shelf p place

  -- a place of the next record is the new one, or one that the record had
  which : (P : Place → Type 0) (q : ℕ) → P (place_at next q) → (q ≡ p → P place → ⊥) → ((q ≡ p → ⊥) → P (place_at shelf q) → ⊥) → ⊥
  which P q w here there =
      ⊎_elim
      (λ e. here e (subst P (ap (place_at next) e ∙ at_same shelf formed p h place) w))
      (λ ne. there ne (subst P (at_other shelf formed p h place q ne) w))
      (same_or q p)

  was-sound : ¬ (Spoiled shelf)
  was-sound = denied (spoiled_of shelf) (decided shelf) sound

  no-wrong : (q : ℕ) → q < places → ((place_at next q).taken ≡ true) × Wrong (place_at next q) → ⊥
  no-wrong q i w = which (λ x. (x.taken ≡ true) × Wrong x) q w (λ _ y. fine y.0 y.1) (λ _ y. was-sound (inl (q, i, y)))

  no-twice : (q r : ℕ) → q < places → r < q → (place_at next r).taken ≡ true → (place_at next q).taken ≡ true
      → OneKey (place_at next r).key (place_at next q).key → ⊥
  no-twice q r i l s t k =
      which (λ x. (x.taken ≡ true) × OneKey (place_at next r).key x.key) q (t, k)
      (λ e y.
      which (λ x. (x.taken ≡ true) × OneKey x.key place.key) r (s, y.1)
      (λ f _. omega arith)
      (λ ne z. unlike (sym (has-key (place_at shelf r) place.key z.0 (one_is _ _ z.1)) ∙ only y.0 r (omega arith) ne)))
      (λ ne y.
      which (λ x. (x.taken ≡ true) × OneKey x.key (place_at shelf q).key) r (s, y.1)
      (λ _ z. unlike (sym (has-key (place_at shelf q) place.key y.0 (sym (one_is _ _ z.1))) ∙ only z.0 q i ne))
      (λ _ z. was-sound (inr (q, i, (r, l, (z.0, (y.0, z.1)))))))

  pub unspoiled-with : spoiled_of next ≡ false
  unspoiled-with =
      fails (spoiled_of next) (decided next)
      (⊎_elim
      (λ w. no-wrong w.0 w.1 w.2)
      (λ w. no-twice w.0 w.2.0 w.1 w.2.1 w.2.2.0 w.2.2.1.0 w.2.2.1.1))
