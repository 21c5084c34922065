-- How a number is written: in one group below 128, in two below 128 × 128, else in three.
use mathlib.Core.Path.{◌≡◌}
use mathlib.Core.List.{[], ◌∷◌}
use Prim.Native.Nat.{ℕ, ◌+◌, ◌/◌, ◌%◌, ◌<◌, ◌≤◌}
use borrow.Author.Tests.{lt-ltb, le-ltb}
use Rattle.file_number.specs.Number.{spelling, spelt}

module _ (n : ℕ) where
  pub spelt-1 : n < 128 → spelt n ≡ n ∷ []
  unfolding spelling
  spelt-1 l = rw (lt-ltb n 128 l)

  module _ (m : 128 ≤ n) where
    pub spelt-2 : n / 128 < 128 → spelt n ≡ (128 + n % 128) ∷ n / 128 ∷ []
    unfolding spelling
    spelt-2 l = rw (le-ltb n 128 m, lt-ltb (n / 128) 128 l)

    pub spelt-3 : 128 ≤ n / 128 → spelt n ≡ (128 + n % 128) ∷ (128 + n / 128 % 128) ∷ n / 128 / 128 ∷ []
    unfolding spelling
    spelt-3 l = rw (le-ltb n 128 m, le-ltb (n / 128) 128 l)
