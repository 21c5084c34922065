-- How a number is written digit by digit.
--   not-reached, reached                          the digit of one power
--   digits_step, digits-end, ten-less             what is left of a number after one digit more, and after the last but one
use mathlib.Core.Path.{◌≡◌}
use mathlib.Core.List.{List, [], ◌∷◌, ◌++◌, append_assoc}
use Prim.Native.Nat.{ℕ, zero, suc, ◌+◌, ◌-◌, ◌/◌, ◌%◌, ◌^◌, ◌<◌, ◌≤◌}
use native.Mathlib.Nat.{pow-suc, one-le-pow}
use native.Mathlib.Omega.{arith}
use borrow.Author.Tests.{lt-leb, le-leb}
use Rattle.file_listing.specs.Words.{place, places}
use Rattle.text.specs.Over.{Wrote}
use Rattle.text.proofs.Writing.{Left, nothing, step}

module _ (power n : ℕ) (out : List ℕ) (at : ℕ) where
  pub not-reached : n < power → Wrote (place power n) out at out at
  unfolding place
  not-reached l = rw (lt-leb power n l) (nothing out at)

  pub reached : (after : List ℕ) (end : ℕ) → power ≤ n → Wrote ((48 + n / power % 10) ∷ []) out at after end → Wrote (place power n) out at after end
  unfolding place
  reached after end l w = rw (le-leb power n l) w

-- the last digit
abbrev pub unit : ℕ → List ℕ
unit n = (48 + n % 10) ∷ []

pub ten-less : (k : ℕ) → 0 < k → 10 ^ k / 10 ≡ 10 ^ (k - 1)
ten-less zero h = absurd (omega arith)
ten-less (suc k) h = let e : suc k - 1 ≡ k = omega arith in rw (pow-suc 10 k, e) (omega arith)

pub ten-up : (k : ℕ) → 0 < 10 ^ k
ten-up k = one-le-pow k 10 (omega arith)

module _ {whole out now : List ℕ} {at here : ℕ} (n k : ℕ) where
  pub digits_step : {now' : List ℕ} {here' : ℕ} → 0 < k → Left whole out at (places k n ++ unit n) now here
      → Wrote (place (10 ^ k) n) now here now' here' → Left whole out at (places (k - 1) n ++ unit n) now' here'
  unfolding places
  digits_step h l v = step (rw (parts k h, append_assoc) at l) v
    where
      parts : (k : ℕ) → 0 < k → places k n ≡ place (10 ^ k) n ++ places (k - 1) n
      parts zero h = absurd (omega arith)
      parts (suc k) h = let e : suc k - 1 ≡ k = omega arith in rw e

  pub digits-end : k ≡ 0 → Left whole out at (places k n ++ unit n) now here → Left whole out at (unit n) now here
  unfolding places
  digits-end e l = rw e at l
