-- Laws on the numbers that are picked.
--   chosen-as        a list depends on what is picked below n alone
--   chosen_none      numbers that are not picked add nothing
--   chosen-added     one number more, above all that are picked, comes last
use mathlib.Core.Path.{◌≡◌, refl, sym, ap, ◌∙◌}
use mathlib.Core.Bool.{Bool, true, false}
use mathlib.Core.List.{List, [], ◌∷◌, ◌++◌, append-nil}
use mathlib.Core.Logic.{⊎_elim}
use Prim.Native.Nat.{ℕ, zero, suc, ◌+◌, ◌<◌, ◌≤◌}
use native.Mathlib.Numerals.{add-one}
use native.Mathlib.Nat.{eq-or-lt_of_le}
use native.Mathlib.Omega.{arith}
use Rattle.base.proofs.Cases.{by}
use Rattle.file.specs.Layout.{chosen}

pub chosen-as : (n : ℕ) (p q : ℕ → Bool) (f g : ℕ → List ℕ) → ((k : ℕ) → k < n → p k ≡ q k) → ((k : ℕ) → k < n → q k ≡ true → f k ≡ g k)
    → chosen n p f ≡ chosen n q g
unfolding chosen
chosen-as zero p q f g a b = refl
chosen-as (suc n) p q f g a b =
    let ih : chosen n p f ≡ chosen n q g = chosen-as n p q f g (λ k l. a k (omega arith)) (λ k l. b k (omega arith)) in
    by (q n)
    (λ t. rw (ih, a n (omega arith), t, b n (omega arith) t))
    (λ t. rw (ih, a n (omega arith), t))

module _ (p : ℕ → Bool) (f : ℕ → List ℕ) where
  pub chosen_none : (m n : ℕ) → m ≤ n → ((k : ℕ) → m ≤ k → p k ≡ false) → chosen n p f ≡ chosen m p f
  unfolding chosen
  chosen_none m zero l none = ap (λ k. chosen k p f) (let e : zero ≡ m = omega arith in e)
  chosen_none m (suc n) l none =
      ⊎_elim
      (λ e. ap (λ k. chosen k p f) (sym e))
      (λ h. rw (none n (omega arith)) (append-nil (chosen n p f) ∙ chosen_none m n (omega arith) none))
      (eq-or-lt_of_le l)

  pub chosen-next : (m : ℕ) → p m ≡ true → chosen (m + 1) p f ≡ chosen m p f ++ (f m ∷ [])
  unfolding chosen
  chosen-next m t = rw (add-one, t)

module _ (p q : ℕ → Bool) (f g : ℕ → List ℕ) (m n : ℕ) (l : m < n) (old : (k : ℕ) → m ≤ k → p k ≡ false)
    (new : (k : ℕ) → m < k → q k ≡ false) (here : q m ≡ true) (below : (k : ℕ) → k < m → q k ≡ p k) (same : (k : ℕ) → k < m → g k ≡ f k) where
  pub chosen-added : chosen n q g ≡ chosen n p f ++ (g m ∷ [])
  chosen-added =
      chosen_none q g (m + 1) n (omega arith) (λ k h. new k (omega arith))
      ∙ chosen-next q g m here
      ∙ ap (λ c. c ++ (g m ∷ [])) (chosen-as m q p g f below (λ k l _. same k l) ∙ sym (chosen_none p f m n (omega arith) old))
