-- What is written, for each way through the writer.
--   small-1, small-2, small-3    15: the output has no room for the groups
--   put_1, put_2, put_3          the groups stand at the front of the output
use mathlib.Core.Path.{◌≡◌, refl}
use mathlib.Core.List.{List, [], ◌∷◌}
use Prim.Native.Nat.{ℕ, ◌+◌, ◌/◌, ◌%◌, ◌<◌, ◌≤◌}
use native.Mathlib.Omega.{arith}
use lib.ListN.{length, set, drop}
use borrow.Author.Tests.{lt-ltb, le-ltb}
use Rattle.file_number.specs.Number.{writing, written_of}
use Rattle.file_number.proofs.Spelling.{spelt-1, spelt-2, spelt-3}
use Rattle.std.specs.Prelude.{Ok, Err}
use Rattle.refusal.specs.declared.Refusal.TheVariants.{OutputTooSmall}

set-1 : (out : List ℕ) (a : ℕ) → 1 ≤ length out → set out 0 a ≡ a ∷ drop 1 out
set-1 [] a h = absurd (omega arith)
set-1 (x ∷ out) a h = refl

set-2 : (out : List ℕ) (a b : ℕ) → 2 ≤ length out → set (set out 0 a) 1 b ≡ a ∷ b ∷ drop 2 out
set-2 [] a b h = absurd (omega arith)
set-2 (x ∷ []) a b h = absurd (omega arith)
set-2 (x ∷ y ∷ out) a b h = refl

set-3 : (out : List ℕ) (a b c : ℕ) → 3 ≤ length out → set (set (set out 0 a) 1 b) 2 c ≡ a ∷ b ∷ c ∷ drop 3 out
set-3 [] a b c h = absurd (omega arith)
set-3 (x ∷ []) a b c h = absurd (omega arith)
set-3 (x ∷ y ∷ []) a b c h = absurd (omega arith)
set-3 (x ∷ y ∷ z ∷ out) a b c h = refl

module _ (n : ℕ) (out : List ℕ) where
  module _ (l : n < 128) where
    pub small-1 : length out < 1 → writing (Err OutputTooSmall) out ≡ written_of n out
    unfolding written_of
    small-1 h = rw (spelt-1 n l, lt-ltb (length out) 1 h)

    pub put_1 : 1 ≤ length out → writing (Ok 1) (set out 0 n) ≡ written_of n out
    unfolding written_of
    put_1 h = rw (spelt-1 n l, le-ltb (length out) 1 h, set-1 out n h)

  module _ (m : 128 ≤ n) where
    module _ (l : n / 128 < 128) where
      pub small-2 : length out < 2 → writing (Err OutputTooSmall) out ≡ written_of n out
      unfolding written_of
      small-2 h = rw (spelt-2 n m l, lt-ltb (length out) 2 h)

      pub put_2 : 2 ≤ length out → writing (Ok 2) (set (set out 0 (128 + n % 128)) 1 (n / 128)) ≡ written_of n out
      unfolding written_of
      put_2 h = rw (spelt-2 n m l, le-ltb (length out) 2 h, set-2 out _ _ h)

    module _ (l : 128 ≤ n / 128) where
      pub small-3 : length out < 3 → writing (Err OutputTooSmall) out ≡ written_of n out
      unfolding written_of
      small-3 h = rw (spelt-3 n m l, lt-ltb (length out) 3 h)

      pub put_3 : 3 ≤ length out
          → writing (Ok 3) (set (set (set out 0 (128 + n % 128)) 1 (128 + n / 128 % 128)) 2 (n / 128 / 128)) ≡ written_of n out
      unfolding written_of
      put_3 h = rw (spelt-3 n m l, le-ltb (length out) 3 h, set-3 out _ _ _ h)
