-- Number 18 in document 01's words, and that a record is spoiled exactly when they are so.
--   Wrong, Twice, Spoiled    the words: of a taken place, of two taken places, of a record
--   spoiled-exactly          `spoiled_of` says them
--   not-held, none_free      no place has a key; no place is free
--   sound-place              what a taken place of a record that is not spoiled is like
--   one_place, place-only    and there a key has one place
use mathlib.Core.Path.{◌≡◌, sym, ap, ◌∙◌}
use mathlib.Core.Bool.{Bool, true, false, not, ◌&&◌}
use mathlib.Core.Logic.{◌↔◌, ◌⊎◌, ⊎_elim, inl, inr}
use Prim.Native.Nat.{ℕ, ◌<◌, ◌≤◌}
use native.Mathlib.Omega.{arith}
use lib.Dec.{ltb, eqb}
use Rattle.base.specs.Tables.{Decides}
use borrow.Author.Tests.{eq-eqb, eqb-true, not-true, ltb-true, ltb-false}
use Rattle.base.proofs.Cases.{by, same_or}
use Rattle.shelf.proofs.Find.{place-has, place-first}
use Rattle.base.specs.Below.{some, lowest}
use Rattle.base.proofs.Below.{some-which, some-found, lowest-all, lowest-below}
use Rattle.base.proofs.Tables.{words, itself, or-so, and_so, fails, denied}
use Rattle.berth.specs.Berth.{places, sections, berth_size}
use Rattle.key.specs.declared.Key.{Key}
use Rattle.key.specs.Key.{same_key}
pub use Rattle.key.proofs.Keys.{OneKey}
use Rattle.key.proofs.Keys.{same_exactly, one_is, is_one_lem}
use Rattle.shelf.specs.Record.{Place}
use Rattle.shelf.specs.Record.{Shelf}
use Rattle.shelf.specs.Record.{place_at, length_at, spoiled_place, alike, spoiled_of, has_key, place_of, free_of}

-- some number below n passes, in words
abbrev pub Some : ℕ → (ℕ → Type 0) → Type 0
Some n P = (k : ℕ) × (k < n) × P k

pub some-so : (n : ℕ) (f : ℕ → Bool) {P : ℕ → Type 0} → ((k : ℕ) → Decides (f k) (P k)) → Decides (some n f) (Some n P)
some-so n f d = (
  λ e. let w = some-which f n e in (w.0, w.1, (d w.0).0 w.2),
  λ w. some-found f n w.0 w.1 ((d w.0).1 w.2),
)

-- none passes: the search for the lowest comes to its end
pub none_so : (n : ℕ) (f : ℕ → Bool) {P : ℕ → Type 0} → ((k : ℕ) → Decides (f k) (P k)) → Decides (eqb (lowest n f) n) (¬ (Some n P))
none_so n f d = (
  λ e w. denied (f w.0) (d w.0) (lowest-below f n w.0 (omega (arith, w.1, eqb-true (lowest n f) n e))) w.2,
  λ h. eq-eqb (lowest n f) n (lowest-all f n (λ k l. fails (f k) (d k) (λ x. h (k, l, x)))),
)

-- section n is held
abbrev pub Held : Place → ℕ → Type 0
Held place n = ¬ (length_at place n ≡ 0)

-- a version above 31, a last above 15, a held number above last or a held length outside 8 to 1,024, or nothing held
abbrev pub Wrong : Place → Type 0
Wrong place =
    (31 < place.version)
    ⊎ ((15 < place.last)
    ⊎ (Some
    sections
    (λ n. Held place n × ((place.last < n) ⊎ ((length_at place n < 8) ⊎ (berth_size < length_at place n))))
    ⊎ ¬ (Some sections (Held place))))

-- a place is taken and has that key
abbrev pub HasKey : Place → Key → Type 0
HasKey place key = (place.taken ≡ true) × OneKey place.key key

-- in a taken place one of those; or two taken places with one key
abbrev pub Spoiled : Shelf → Type 0
Spoiled shelf =
    Some places (λ p. ((place_at shelf p).taken ≡ true) × Wrong (place_at shelf p))
    ⊎ Some
    places
    (λ q.
    Some
    q
    (λ p.
    ((place_at shelf p).taken ≡ true)
    × (((place_at shelf q).taken ≡ true) × OneKey (place_at shelf p).key (place_at shelf q).key)))

spoiled-place : (place : Place) → Decides (spoiled_place place) ((place.taken ≡ true) × Wrong place)
unfolding spoiled_place
spoiled-place place = search (words, some-so) depth 20

two-alike : (a b : Place) → Decides (alike a b) ((a.taken ≡ true) × ((b.taken ≡ true) × OneKey a.key b.key))
unfolding alike
two-alike a b =
    and_so a.taken (b.taken && same_key a.key b.key) (itself a.taken)
    (and_so b.taken (same_key a.key b.key) (itself b.taken) (same_exactly a.key b.key))

pub decided : (shelf : Shelf) → Decides (spoiled_of shelf) (Spoiled shelf)
unfolding spoiled_of
decided shelf =
    or-so
    (some places (λ p. spoiled_place (place_at shelf p)))
    (some places (λ q. some q (λ p. alike (place_at shelf p) (place_at shelf q))))
    (some-so places (λ p. spoiled_place (place_at shelf p)) (λ p. spoiled-place (place_at shelf p)))
    (some-so
    places
    (λ q. some q (λ p. alike (place_at shelf p) (place_at shelf q)))
    (λ q. some-so q (λ p. alike (place_at shelf p) (place_at shelf q)) (λ p. two-alike (place_at shelf p) (place_at shelf q))))

pub spoiled-exactly : (shelf : Shelf) → (spoiled_of shelf ≡ true) ↔ Spoiled shelf
spoiled-exactly shelf = decided shelf

not-over : {a b : ℕ} → ¬ (a < b) → b ≤ a
not-over {a} {b} h = omega (arith, h)

pub has-key : (place : Place) (key : Key) → Decides (has_key place key) (HasKey place key)
unfolding has_key
has-key place key = and_so place.taken (same_key place.key key) (itself place.taken) (same_exactly place.key key)

free : (t : Bool) → Decides (not t) (t ≡ false)
free t = (not-true t, λ e. ap not e)

-- no place has the key
pub not-held : (shelf : Shelf) (key : Key) → Decides (eqb (place_of shelf key) places) (¬ (Some places (λ p. HasKey (place_at shelf p) key)))
unfolding place_of
not-held shelf key = none_so places (λ p. has_key (place_at shelf p) key) (λ p. has-key (place_at shelf p) key)

-- no place is free
pub none_free : (shelf : Shelf) → Decides (eqb (free_of shelf) places) (¬ (Some places (λ p. (place_at shelf p).taken ≡ false)))
unfolding free_of
none_free shelf = none_so places (λ p. not (place_at shelf p).taken) (λ p. free (place_at shelf p).taken)

-- what a taken place is like where 18 is not given
pub record SoundPlace (place : Place) : Type 0 where
  pub version : place.version ≤ 31
  pub last : place.last ≤ 15
  pub number : (n : ℕ) → n < sections → Held place n → n ≤ place.last
  pub least : (n : ℕ) → n < sections → Held place n → 8 ≤ length_at place n
  pub most : (n : ℕ) → n < sections → length_at place n ≤ berth_size
  pub something : ¬ ¬ (Some sections (Held place))

module _ (shelf : Shelf) (e : spoiled_of shelf ≡ false) where
  not-spoiled : ¬ (Spoiled shelf)
  not-spoiled = denied (spoiled_of shelf) (decided shelf) e

  pub sound-place : (p : ℕ) → p < places → (place_at shelf p).taken ≡ true → SoundPlace (place_at shelf p)
  sound-place p h t =
      let none : ¬ (Wrong (place_at shelf p)) = λ w. not-spoiled (inl (p, h, (t, w))) in
      let length : (n : ℕ) → n < sections → Held (place_at shelf p) n → ¬ (((place_at shelf p).last < n)
      ⊎ ((length_at (place_at shelf p) n < 8) ⊎ (berth_size < length_at (place_at shelf p) n)))
      = λ n l k w. none (inr (inr (inl (n, l, (k, w))))) in
      record {
        version = not-over (λ w. none (inl w));
        last = not-over (λ w. none (inr (inl w)));
        number = λ n l k. not-over (λ w. length n l k (inl w));
        least = λ n l k. not-over (λ w. length n l k (inr (inl w)));
        most = λ n l. not-over (λ w. length n l (λ z. omega arith) (inr (inr w)));
        something = λ w. none (inr (inr (inr w)));
      }

  pub one_place : (p q : ℕ) → p < q → q < places → (place_at shelf p).taken ≡ true → (place_at shelf q).taken ≡ true
      → ¬ (OneKey (place_at shelf p).key (place_at shelf q).key)
  one_place p q l h s t k = not-spoiled (inr (q, h, (p, l, (s, (t, k)))))

  -- the place of a key is the only one that has it
  pub place-only : (key : Key) (p : ℕ) → p < places → HasKey (place_at shelf p) key → p ≡ place_of shelf key
  place-only key p h k =
      ⊎_elim
      (λ same. same)
      (λ other.
      by (ltb p (place_of shelf key))
      (λ t. absurd (denied (has_key (place_at shelf p) key) (has-key (place_at shelf p) key) (place-first shelf key p (ltb-true _ _ t)) k))
      (λ f.
      let l : place_of shelf key < p = (let le : place_of shelf key ≤ p = ltb-false _ _ f in omega (arith, le, other)) in
      let q : HasKey (place_at shelf (place_of shelf key)) key
      = (has-key (place_at shelf (place_of shelf key)) key).0 (place-has shelf key (omega (arith, l, h))) in
      absurd
      (one_place (place_of shelf key) p l h q.0 k.0 (is_one_lem _ _ (one_is _ _ q.1 ∙ sym (one_is _ _ k.1))))))
      (same_or p (place_of shelf key))
