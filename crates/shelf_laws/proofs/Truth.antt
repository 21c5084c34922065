-- Laws of `every` and `lowest` that the library does not have.
--   every-same, lowest-same                  tests that agree below n
use mathlib.Core.Path.{◌≡◌, refl}
use mathlib.Core.Bool.{Bool}
use Prim.Native.Nat.{ℕ, zero, suc, ◌<◌}
use native.Mathlib.Omega.{arith}
use Rattle.base.specs.Below.{every, lowest}

pub every-same : (f g : ℕ → Bool) (n : ℕ) → ((k : ℕ) → k < n → f k ≡ g k) → every n f ≡ every n g
unfolding every
every-same f g zero e = refl
every-same f g (suc n) e = rw (every-same f g n (λ k h. e k (omega arith)), e n (omega arith))

pub lowest-same : (f g : ℕ → Bool) (n : ℕ) → ((k : ℕ) → k < n → f k ≡ g k) → lowest n f ≡ lowest n g
unfolding lowest
lowest-same f g zero e = refl
lowest-same f g (suc n) e = rw (lowest-same f g n (λ k h. e k (omega arith)), e n (omega arith))
