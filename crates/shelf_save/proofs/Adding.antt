-- How many bytes a table takes in its file, as the code adds them up.
--   spelt-1-size, spelt-2-size, spelt-3-size   a number takes one group, two or three
--   no_size, some_size, no-count, some-count   one section
--   none-counted, one-counted, skip-counted, all-counted     the sections of a place, turn by turn; so none-sized ..
use mathlib.Core.Path.{◌≡◌, refl, sym, ap, ◌∙◌}
use mathlib.Core.List.{List}
use Prim.Native.Nat.{ℕ, ◌+◌, ◌<◌, ◌≤◌}
use native.Mathlib.Numerals.{add-one}
use native.Mathlib.Omega.{arith}
use lib.ListN.{length, get_or}
use borrow.Author.Tests.{eq-eqb, ne_eqb}
use Rattle.berth.specs.Berth.{sections}
use Rattle.file_number.specs.Number.{spelt}
use Rattle.file_number.proofs.Spelling.{spelt-1, spelt-2, spelt-3}
use Rattle.shelf_save.specs.Sizes.{size_of, count_of, size_below, count_below}

module _ (n : ℕ) where
  pub spelt-1-size : n < 128 → 1 ≡ length (spelt n)
  spelt-1-size l = rw (spelt-1 n l)

  module _ (m : 128 ≤ n) where
    pub spelt-2-size : n < 16384 → 2 ≡ length (spelt n)
    spelt-2-size l = rw (spelt-2 n m (omega arith))

    pub spelt-3-size : 16384 ≤ n → 3 ≡ length (spelt n)
    spelt-3-size l = rw (spelt-3 n m (omega arith))

module _ (size : ℕ) where
  pub no_size : size ≡ 0 → 0 ≡ size_of size
  unfolding size_of
  no_size z = rw (eq-eqb size 0 z)

  pub some_size : (size ≡ 0 → ⊥) → length (spelt size) + size ≡ size_of size
  unfolding size_of
  some_size n = rw (ne_eqb size 0 n)

  pub no-count : size ≡ 0 → 0 ≡ count_of size
  unfolding count_of
  no-count z = rw (eq-eqb size 0 z)

  pub some-count : (size ≡ 0 → ⊥) → 1 ≡ count_of size
  unfolding count_of
  some-count n = rw (ne_eqb size 0 n)

module _ (lengths : List ℕ) where
  pub none-sized : 0 ≡ size_below 0 lengths
  unfolding size_below
  none-sized = refl

  pub none-counted : 0 ≡ count_below 0 lengths
  unfolding count_below
  none-counted = refl

  pub next-size : (k : ℕ) → size_below (k + 1) lengths ≡ size_below k lengths + size_of (get_or lengths k 0)
  unfolding size_below
  next-size k = rw add-one

  next-count : (k : ℕ) → count_below (k + 1) lengths ≡ count_below k lengths + count_of (get_or lengths k 0)
  unfolding count_below
  next-count k = rw add-one

  pub one-sized : {bytes more : ℕ} (k : ℕ) → bytes ≡ size_below k lengths → more ≡ size_of (get_or lengths k 0) → bytes + more ≡ size_below (k + 1) lengths
  one-sized k e f = rw (e, f) (sym (next-size k))

  pub one-counted : {count more : ℕ} (k : ℕ) → count ≡ count_below k lengths → more ≡ count_of (get_or lengths k 0) → count + more ≡ count_below (k + 1) lengths
  one-counted k e f = rw (e, f) (sym (next-count k))

  pub skip-sized : {bytes : ℕ} (k : ℕ) → bytes ≡ size_below k lengths → get_or lengths k 0 ≡ 0 → bytes ≡ size_below (k + 1) lengths
  skip-sized {bytes} k e z = let a : bytes ≡ bytes + 0 = omega arith in a ∙ one-sized k e (no_size _ z)

  pub skip-counted : {count : ℕ} (k : ℕ) → count ≡ count_below k lengths → get_or lengths k 0 ≡ 0 → count ≡ count_below (k + 1) lengths
  skip-counted {count} k e z = let a : count ≡ count + 0 = omega arith in a ∙ one-counted k e (no-count _ z)

  pub all-sized : {bytes : ℕ} (k : ℕ) → k ≡ sections → bytes ≡ size_below k lengths → bytes ≡ size_below sections lengths
  all-sized k e q = q ∙ ap (λ n. size_below n lengths) e

  pub all-counted : {count : ℕ} (k : ℕ) → k ≡ sections → count ≡ count_below k lengths → count ≡ count_below sections lengths
  all-counted k e q = q ∙ ap (λ n. count_below n lengths) e
