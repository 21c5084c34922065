-- Where a key is held, and which place is free.
--   lowest-at                      a search for the lowest that has come to its end has found none
--   place-le, free-le              both are at most 4
--   place-has, place-first, place-taken   the place of a held key is the lowest that has it, and is taken
--   free-free, free-first          the free place is free, and no lower one is
use mathlib.Core.Path.{◌≡◌}
use mathlib.Core.Bool.{Bool, true, false, not}
use Prim.Native.Nat.{ℕ, ◌<◌, ◌≤◌}
use borrow.Author.Tests.{not-true, not-false}
use Rattle.base.specs.Below.{lowest}
use Rattle.base.proofs.Below.{lowest-le, lowest-holds, lowest-below}
use Rattle.base.proofs.Cases.{and_left}
use Rattle.berth.specs.Berth.{places}
use Rattle.key.specs.declared.Key.{Key}
use Rattle.key.specs.Key.{same_key}
use Rattle.shelf.specs.Record.{Shelf}
use Rattle.shelf.specs.Record.{place_at, has_key, place_of, free_of}

pub lowest-at : (n : ℕ) {i : ℕ} (f : ℕ → Bool) → i ≡ n → lowest i f ≡ i → lowest n f ≡ n
lowest-at n f e h = rw e at h

module _ (shelf : Shelf) where
  module _ (key : Key) where
    pub place-le : place_of shelf key ≤ places
    unfolding place_of
    place-le = lowest-le (λ p. has_key (place_at shelf p) key) places

    pub place-has : place_of shelf key < places → has_key (place_at shelf (place_of shelf key)) key ≡ true
    unfolding place_of
    place-has h = lowest-holds (λ p. has_key (place_at shelf p) key) places h

    -- and no lower one has it
    pub place-first : (p : ℕ) → p < place_of shelf key → has_key (place_at shelf p) key ≡ false
    unfolding place_of
    place-first p h = lowest-below (λ p. has_key (place_at shelf p) key) places p h

    pub place-taken : place_of shelf key < places → (place_at shelf (place_of shelf key)).taken ≡ true
    unfolding has_key
    place-taken h = and_left (place_at shelf (place_of shelf key)).taken (same_key (place_at shelf (place_of shelf key)).key key) (place-has h)

  pub free-le : free_of shelf ≤ places
  unfolding free_of
  free-le = lowest-le (λ p. not (place_at shelf p).taken) places

  -- and no lower one is
  pub free-first : (p : ℕ) → p < free_of shelf → (place_at shelf p).taken ≡ true
  unfolding free_of
  free-first p h = not-false (place_at shelf p).taken (lowest-below (λ p. not (place_at shelf p).taken) places p h)

  pub free-free : free_of shelf < places → (place_at shelf (free_of shelf)).taken ≡ false
  unfolding free_of
  free-free h = not-true (place_at shelf (free_of shelf)).taken (lowest-holds (λ p. not (place_at shelf p).taken) places h)
