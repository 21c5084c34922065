-- The fields that flags may include, as the code comes by them.
--   stops, finishes               a field passes the end, or none does
--   none-included, all-included   where none of the four flags is 1, and where all are
use mathlib.Core.Path.{◌≡◌, ap}
use Prim.Native.Nat.{ℕ, ◌+◌, ◌/◌, ◌%◌, ◌<◌, ◌≤◌}
use native.Mathlib.Omega.{arith}
use borrow.Author.Tests.{lt-ltb, le-ltb, eq-eqb, ne_eqb}
use Rattle.std.specs.Prelude.{Some, None}
use Rattle.programme_items.specs.Parts.{up_to, included}

module _ (size from f : ℕ) where
  pub stops : size < from + included f → None ≡ up_to size (from + included f)
  unfolding up_to
  stops l = rw (lt-ltb size (from + included f) l)

  pub finishes : (to : ℕ) → to ≡ from + included f → to ≤ size → Some to ≡ up_to size (from + included f)
  unfolding up_to
  finishes to e l = let h : from + included f ≤ size = omega arith in rw (le-ltb size (from + included f) h) (ap Some e)

pub none-included : (f : ℕ) → f / 4 % 16 ≡ 0 → included f ≡ 0
none-included f e =
    rw (
      ne_eqb (f / 32 % 2) 1 (λ h. omega arith),
      ne_eqb (f / 16 % 2) 1 (λ h. omega arith),
      ne_eqb (f / 8 % 2) 1 (λ h. omega arith),
      ne_eqb (f / 4 % 2) 1 (λ h. omega arith),
    )

pub all-included : (f : ℕ) → f / 4 % 16 ≡ 15 → included f ≡ 15
all-included f e =
    rw (
      eq-eqb (f / 32 % 2) 1 (omega arith),
      eq-eqb (f / 16 % 2) 1 (omega arith),
      eq-eqb (f / 8 % 2) 1 (omega arith),
      eq-eqb (f / 4 % 2) 1 (omega arith),
    )
