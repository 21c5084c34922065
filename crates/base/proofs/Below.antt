-- Laws on `some`, `every` and `lowest`, each for the place of a loop where it is wanted.
--   some-none, some_more, some-found, some-end, some_next, some-all     every-none, every-next, every-all, every-fails
--   lowest-none, lowest-more, lowest-found, lowest-end, lowest-le, lowest-all, lowest-holds
use mathlib.Core.Path.{◌≡◌, refl, sym, ◌∙◌}
use mathlib.Core.Bool.{Bool, true, false, ◌&&◌, ◌||◌}
use mathlib.Core.Logic.{⊎_elim}
use Prim.Native.Nat.{ℕ, zero, suc, ◌+◌, ◌<◌, ◌≤◌}
use native.Mathlib.Numerals.{add-one}
use native.Mathlib.Nat.{eq-or-lt_of_le, le_of_suc-le-suc, not-suc-le-zero}
use native.Mathlib.Omega.{arith}
use lib.Dec.{ltb}
use borrow.Author.Tests.{lt-ltb, le-ltb, ltb-true, ltb-false}
use Rattle.base.specs.Below.{some, every, lowest}
use Rattle.base.proofs.Cases.{by, unlike, and_left, and_right}

module _ (f : ℕ → Bool) where
  pub some-none : some 0 f ≡ false
  unfolding some
  some-none = refl

  pub some_next : (i : ℕ) → some (i + 1) f ≡ some i f || f i
  unfolding some
  some_next i = rw add-one

  pub some_more : (i : ℕ) → some i f ≡ false → f i ≡ false → some (i + 1) f ≡ false
  some_more i e h = rw (some_next i, e, h)

  pub some-found : (n k : ℕ) → k < n → f k ≡ true → some n f ≡ true
  unfolding some
  some-found zero k h t = absurd (not-suc-le-zero h)
  some-found (suc n) k h t =
      ⊎_elim
      (λ e. by (some n f) (λ s. rw s) (λ s. rw (s, ← e, t)))
      (λ l. rw (some-found n k l t))
      (eq-or-lt_of_le (le_of_suc-le-suc h))

  pub some-each : (n k : ℕ) → k < n → some n f ≡ false → f k ≡ false
  some-each n k h e = by (f k) (λ t. absurd (unlike (sym (some-found n k h t) ∙ e))) (λ t. t)

  pub some-all : (n : ℕ) → ((k : ℕ) → k < n → f k ≡ false) → some n f ≡ false
  unfolding some
  some-all zero h = refl
  some-all (suc n) h = rw (some-all n (λ k l. h k (omega arith)), h n (omega arith))

  pub some-which : (n : ℕ) → some n f ≡ true → (k : ℕ) × (k < n) × (f k ≡ true)
  unfolding some
  some-which zero e = absurd (unlike (sym e))
  some-which (suc n) e =
      by (some n f)
      (λ s. let w = some-which n s in (w.0, omega arith, w.2))
      (λ s. (n, omega arith, rw s at e))

  pub every-none : every 0 f ≡ true
  unfolding every
  every-none = refl

  pub every-next : (i : ℕ) → every (i + 1) f ≡ every i f && f i
  unfolding every
  every-next i = rw add-one

  pub every-all : (n : ℕ) → ((k : ℕ) → k < n → f k ≡ true) → every n f ≡ true
  unfolding every
  every-all zero h = refl
  every-all (suc n) h = rw (every-all n (λ k l. h k (omega arith)), h n (omega arith))

  pub every-each : (n k : ℕ) → k < n → every n f ≡ true → f k ≡ true
  unfolding every
  every-each zero k h e = absurd (not-suc-le-zero h)
  every-each (suc n) k h e =
      ⊎_elim
      (λ q. rw q (and_right (every n f) (f n) e))
      (λ l. every-each n k l (and_left (every n f) (f n) e))
      (eq-or-lt_of_le (le_of_suc-le-suc h))

  pub lowest-none : lowest 0 f ≡ 0
  unfolding lowest
  lowest-none = refl

  pub lowest-le : (n : ℕ) → lowest n f ≤ n
  unfolding lowest
  lowest-le zero = omega arith
  lowest-le (suc n) =
      by (ltb (lowest n f) n)
      (λ t. rw t (let l : lowest n f < n = ltb-true _ _ t in omega arith))
      (λ t. rw t (by (f n) (λ u. rw u (omega arith)) (λ u. rw u (omega arith))))

  -- none of the first i passes
  pub lowest-more : (i : ℕ) → lowest i f ≡ i → f i ≡ false → lowest (i + 1) f ≡ i + 1
  unfolding lowest
  lowest-more i e h = rw (add-one, e, le-ltb i i (omega arith), h)

  pub lowest-all : (n : ℕ) → ((k : ℕ) → k < n → f k ≡ false) → lowest n f ≡ n
  unfolding lowest
  lowest-all zero h = refl
  lowest-all (suc n) h = rw (lowest-all n (λ k l. h k (omega arith)), le-ltb n n (omega arith), h n (omega arith))

  -- what passes first below i is what passes first below n
  pub lowest-found : (n i : ℕ) → i < n → lowest i f ≡ i → f i ≡ true → lowest n f ≡ i
  unfolding lowest
  lowest-found zero i h e t = absurd (not-suc-le-zero h)
  lowest-found (suc n) i h e t =
      ⊎_elim
      (λ q. rw (← q, e, le-ltb i i (omega arith), t))
      (λ l. rw (lowest-found n i l e t, lt-ltb i n l))
      (eq-or-lt_of_le (le_of_suc-le-suc h))

  pub lowest-holds : (n : ℕ) → lowest n f < n → f (lowest n f) ≡ true
  unfolding lowest
  lowest-holds zero h = absurd (not-suc-le-zero h)
  lowest-holds (suc n) h =
      by (ltb (lowest n f) n)
      (λ t. rw t (lowest-holds n (ltb-true _ _ t)))
      (λ t. by (f n) (λ u. rw (t, u) u) (λ u. absurd (let g : suc n < suc n = rw (t, u) at h in omega arith)))

  -- all below the lowest fail
  pub lowest-below : (n k : ℕ) → k < lowest n f → f k ≡ false
  unfolding lowest
  lowest-below zero k h = absurd (not-suc-le-zero h)
  lowest-below (suc n) k h =
      by (ltb (lowest n f) n)
      (λ t. lowest-below n k (rw t at h))
      (λ t.
      let low : lowest n f ≡ n = (let a : n ≤ lowest n f = ltb-false _ _ t in let b : lowest n f ≤ n = lowest-le n in omega arith) in
      by (f n)
      (λ u. let g : k < n = rw (t, u) at h in lowest-below n k (omega arith))
      (λ u.
      let g : k < suc n = rw (t, u) at h in
      ⊎_elim (λ q. rw q u) (λ l. lowest-below n k (omega arith)) (eq-or-lt_of_le (le_of_suc-le-suc g))))
