-- Records are equal when their taken places are: what a free place happens to hold never matters.
--   Four                                   a record's list has its four places
--   same_refl, same-sym, same-trans        equality of records
--   same-spoiled, same_place, same-free    equal records are spoiled alike, and have their keys and free places alike
--   same-with                              and stay equal when one place of both becomes the same
use mathlib.Core.Path.{◌≡◌, refl, sym, ap, ◌∙◌}
use mathlib.Core.Bool.{Bool, false, not}
use mathlib.Core.Logic.{⊎_elim}
use Prim.Native.Nat.{ℕ, zero, suc, ◌<◌}
use native.Mathlib.Omega.{arith}
use lib.ListN.{length}
use lib.Seq.{get_or-set_same, get_or-set_other}
use Rattle.base.specs.Below.{some, lowest}
use Rattle.base.proofs.Cases.{by, same_or}
use Rattle.berth.specs.Berth.{places}
use Rattle.key.specs.declared.Key.{Key}
use Rattle.shelf.specs.Record.{Place}
use Rattle.shelf.specs.Record.{Shelf}
use Rattle.shelf.specs.Record.{free_place, place_at, with_place, spoiled_place, alike, spoiled_of, has_key, place_of, free_of, Same}

-- tests that agree below n
pub some_alike : (f g : ℕ → Bool) (n : ℕ) → ((k : ℕ) → k < n → f k ≡ g k) → some n f ≡ some n g
unfolding some
some_alike f g zero h = refl
some_alike f g (suc n) h = rw (some_alike f g n (λ k l. h k (omega arith)), h n (omega arith))

pub lowest-alike : (f g : ℕ → Bool) (n : ℕ) → ((k : ℕ) → k < n → f k ≡ g k) → lowest n f ≡ lowest n g
unfolding lowest
lowest-alike f g zero h = refl
lowest-alike f g (suc n) h = rw (lowest-alike f g n (λ k l. h k (omega arith)), h n (omega arith))

-- every value of the record's type has four places
abbrev pub Four : Shelf → Type 0
Four shelf = length shelf.places ≡ places

pub same_refl : (a : Shelf) → Same a a
same_refl a = record { takes = λ p h. refl; equal = λ p h t. refl }

pub same-sym : (a b : Shelf) → Same a b → Same b a
same-sym a b s =
    record { takes = λ p h. sym (s.takes p h); equal = λ p h t. sym (s.equal p h (s.takes p h ∙ t)) }

pub same-trans : (a b c : Shelf) → Same a b → Same b c → Same a c
same-trans a b c s r =
    record {
      takes = λ p h. s.takes p h ∙ r.takes p h;
      equal = λ p h t. s.equal p h t ∙ r.equal p h (sym (s.takes p h) ∙ t);
    }

-- a free place is not spoiled, has no key, and is like no other
free-sound : (x : Place) → x.taken ≡ false → spoiled_place x ≡ false
unfolding spoiled_place
free-sound x t = rw t

free_keyless : (key : Key) (x : Place) → x.taken ≡ false → has_key x key ≡ false
unfolding has_key
free_keyless key x t = rw t

free-unlike : (y x : Place) → x.taken ≡ false → alike x y ≡ false
unfolding alike
free-unlike y x t = rw t

unlike-free : (x y : Place) → y.taken ≡ false → alike x y ≡ false
unfolding alike
unlike-free x y t = by x.taken (λ u. rw (u, t)) (λ u. rw u)

module _ (a b : Shelf) (s : Same a b) where
  -- what is the same of every free place
  only-taken :
      {A : Type 0}
      (f : Place → A)
      (none : A)
      → ((x : Place) → x.taken ≡ false → f x ≡ none)
      → (p : ℕ)
      → p < places
      → f (place_at a p) ≡ f (place_at b p)
  only-taken f none n p h =
      by (place_at a p).taken
      (λ t. ap f (s.equal p h t))
      (λ t. n (place_at a p) t ∙ sym (n (place_at b p) (sym (s.takes p h) ∙ t)))

  pub same-spoiled : spoiled_of a ≡ spoiled_of b
  unfolding spoiled_of
  same-spoiled =
      rw (
        some_alike
            (λ p. spoiled_place (place_at a p))
            (λ p. spoiled_place (place_at b p))
            places
            (only-taken spoiled_place false free-sound),
        some_alike
            (λ q. some q (λ p. alike (place_at a p) (place_at a q)))
            (λ q. some q (λ p. alike (place_at b p) (place_at b q)))
            places
            (λ q h.
            some_alike
            (λ p. alike (place_at a p) (place_at a q))
            (λ p. alike (place_at b p) (place_at b q))
            q
            (λ p l.
            only-taken (λ x. alike x (place_at a q)) false (free-unlike (place_at a q)) p (omega arith)
            ∙ only-taken (alike (place_at b p)) false (unlike-free (place_at b p)) q h)),
      )

  pub same_place : (key : Key) → place_of a key ≡ place_of b key
  unfolding place_of
  same_place key =
      lowest-alike
      (λ p. has_key (place_at a p) key)
      (λ p. has_key (place_at b p) key)
      places
      (only-taken (λ x. has_key x key) false (free_keyless key))

  pub same-free : free_of a ≡ free_of b
  unfolding free_of
  same-free =
      lowest-alike
      (λ p. not (place_at a p).taken)
      (λ p. not (place_at b p).taken)
      places
      (λ p h. ap not (s.takes p h))

  pub same-with : Four a → Four b → (p : ℕ) → p < places → (x : Place) → Same (with_place a p x) (with_place b p x)
  same-with fa fb p h x =
      record {
        takes = λ q l.
            ⊎_elim
            (λ e. ap (λ y. y.taken) (here q e))
            (λ n. rw (there a q n, there b q n) (s.takes q l))
            (same_or q p);
        equal = λ q l t.
            ⊎_elim
            (here q)
            (λ n. rw (there a q n, there b q n) (s.equal q l (rw (there a q n) at t)))
            (same_or q p);
      }
    where
      there : (c : Shelf) (q : ℕ) → (q ≡ p → ⊥) → place_at (with_place c p x) q ≡ place_at c q
      there c q n = get_or-set_other c.places p q x free_place n

      here : (q : ℕ) → q ≡ p → place_at (with_place a p x) q ≡ place_at (with_place b p x) q
      here q e =
          rw e
          (get_or-set_same a.places p x free_place (omega (arith, fa, h))
          ∙ sym (get_or-set_same b.places p x free_place (omega (arith, fb, h))))
