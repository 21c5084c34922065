-- Laws on a list over the numbers below n.
--   up-length, up_at     how long it is, and what stands at a place
use mathlib.Core.Path.{◌≡◌, refl, ap}
use Prim.Native.Nat.{ℕ, zero, suc, ◌<◌}
use native.Mathlib.Omega.{arith}
use lib.ListN.{length, get_or}
use Rattle.clock_states.specs.UpTo.{up_to}

module _ {A : Type 0} where
  pub up-length : (n : ℕ) (f : ℕ → A) → length (up_to n f) ≡ n
  unfolding up_to
  up-length zero f = refl
  up-length (suc n) f = ap suc (up-length n (λ k. f (suc k)))

  pub up_at : (n : ℕ) (f : ℕ → A) (i : ℕ) (d : A) → i < n → get_or (up_to n f) i d ≡ f i
  unfolding up_to
  up_at zero f i d h = absurd (omega arith)
  up_at (suc n) f zero d h = refl
  up_at (suc n) f (suc i) d h = up_at n (λ k. f (suc k)) i d (omega arith)
