-- Lists of what is picked below a number, where each thing has its own number.
--   picked-length   they are at most as many
--   picked-in, picked-from    what is picked is in the list, and what is in the list is picked
--   picked-match    two lists that are one pick the same
use Rattle.std.specs.Prelude.{if◌then◌else◌}
use mathlib.Core.Path.{◌≡◌, refl, sym, ap, subst, ◌∙◌}
use mathlib.Core.Bool.{Bool, true}
use mathlib.Core.List.Memᴰ
use mathlib.Core.List.{List, [], ◌∷◌, Memᴰ}
use mathlib.Core.Logic.{⊎_elim}
use Prim.Native.Nat.{ℕ, zero, suc, ◌<◌, ◌≤◌}
use native.Mathlib.Nat.{eq-or-lt_of_le, le_of_suc-le-suc, not-suc-le-zero}
use native.Mathlib.Omega.{arith}
use lib.ListN.{length, length-append}
use Rattle.base.proofs.Cases.{by, unlike}
use Rattle.file.specs.Layout.{chosen}

module _ (p : ℕ → Bool) (f : ℕ → List ℕ) where
  pub picked-length : (n : ℕ) → length (chosen n p f) ≤ n
  unfolding chosen
  picked-length zero = omega arith
  picked-length (suc n) =
      let ih : length (chosen n p f) ≤ n = picked-length n in
      by (p n) (λ t. rw (t, length-append) (omega arith)) (λ t. rw (t, length-append) (omega arith))

  pub picked-in : (n k : ℕ) → k < n → p k ≡ true → Memᴰ (f k) (chosen n p f)
  unfolding chosen
  picked-in zero k l t = absurd (not-suc-le-zero l)
  picked-in (suc n) k l t =
      ⊎_elim
      (λ e. rw e (rw (rw e at t) (Memᴰ.append_right (chosen n p f) (Memᴰ.head refl))))
      (λ i. Memᴰ.append_left (if p n then f n ∷ [] else []) (picked-in n k i t))
      (eq-or-lt_of_le (le_of_suc-le-suc l))

  -- the number of what is in the list
  pub record From (n : ℕ) (a : List ℕ) : Type 0 where
    pub at : ℕ
    pub below : at < n
    pub picked : p at ≡ true
    pub same : a ≡ f at

  later : (n : ℕ) (a : List ℕ) → From n a → From (suc n) a
  later n a w = record { at = w.at; below = (let l = w.below in omega arith); picked = w.picked; same = w.same }

  last : (n : ℕ) (a : List ℕ) → Memᴰ a (if p n then f n ∷ [] else []) → From (suc n) a
  last n a =
      by (p n)
      (λ t. rw t (λ m. record { at = n; below = omega arith; picked = t; same = Memᴰ.eq_of_singleton m }))
      (λ t. rw t (λ m. absurd (Memᴰ.not-nil m)))

  pub picked-from : (n : ℕ) (a : List ℕ) → Memᴰ a (chosen n p f) → From n a
  unfolding chosen
  picked-from zero a m = absurd (Memᴰ.not-nil m)
  picked-from (suc n) a m = ⊎_elim (λ i. later n a (picked-from n a i)) (last n a) (Memᴰ.append_cases (chosen n p f) m)

-- a thing's own number tells where it was picked
module _ (own : List ℕ → ℕ) (n : ℕ) where
  abbrev pub Numbered : (ℕ → Bool) → (ℕ → List ℕ) → Type 0
  Numbered p f = (k : ℕ) → k < n → p k ≡ true → own (f k) ≡ k

  module _ (p q : ℕ → Bool) (f g : ℕ → List ℕ) (pf : Numbered p f) (qg : Numbered q g) (e : chosen n p f ≡ chosen n q g) where
    pub matched : (k : ℕ) → k < n → p k ≡ true → (q k ≡ true) × (f k ≡ g k)
    matched k l t =
        let w = picked-from q g n (f k) (subst (Memᴰ (f k)) e (picked-in p f n k l t)) in
        let z : w.at ≡ k = sym (qg w.at w.below w.picked) ∙ ap own (sym w.same) ∙ pf k l t in
        (ap q (sym z) ∙ w.picked, w.same ∙ ap g z)

  pub picked-match : (p q : ℕ → Bool) (f g : ℕ → List ℕ) → Numbered p f → Numbered q g → chosen n p f ≡ chosen n q g
      → (k : ℕ) → k < n → p k ≡ q k
  picked-match p q f g pf qg e k l =
      by (p k)
      (λ t. t ∙ sym (matched p q f g pf qg e k l t).0)
      (λ t. by (q k) (λ u. absurd (unlike (sym (matched q p g f qg pf (sym e) k l u).0 ∙ t))) (λ u. t ∙ sym u))
