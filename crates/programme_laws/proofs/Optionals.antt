-- A field that its flag includes or not, written and read.
--   opt-after, opt-says            what is written is read, by the flag, and what stands behind it
--   optional_from, opt-reads ..     what is read is what stands there
use mathlib.Core.Path.{◌≡◌}
use mathlib.Core.Bool.{Bool, true, false}
use mathlib.Core.List.{List, ◌++◌}
use Prim.Native.Nat.{ℕ, ◌+◌, ◌*◌, ◌/◌, ◌%◌, ◌^◌, ◌≤◌}
use native.Mathlib.Nat.{div-add-mod', mod-lt}
use native.Mathlib.Omega.{arith}
use lib.Arith.{digits_mod}
use lib.Dec.{eqb}
use lib.ListN.{length, drop}
use lib.Pow.{pow_pos}
use borrow.Author.Tests.{eqb-true, eqb-false}
use Rattle.base.specs.Octets.{Octets}
use Rattle.base.proofs.Cases.{by}
use Rattle.programme.specs.Field.{number, only, low}
use Rattle.programme_laws.specs.Layout.{Optional, included, optional_bytes, value_of, FitOptional}
use Rattle.programme_laws.proofs.From.{From}
use Rattle.programme_laws.proofs.Digits.{field-says, field-after, field-reads, number_fits}

module _ (n bits : ℕ) {s : List ℕ} {at : ℕ} (t : Bool) where
  pub opt-after : (o : Optional) (r : List ℕ) → From s at (optional_bytes n bits o ++ r) → t ≡ eqb (included o) 1 → From s (at + only t n) r
  unfolding optional_bytes
  opt-after Optional.absent r f e = let z : at + 0 ≡ at = omega arith in rw (e, z) f
  opt-after (Optional.there reserved value) r f e = rw e (field-after n (reserved * 2 ^ bits + value) r f)

  pub opt-says : (o : Optional) (r : List ℕ) → From s at (optional_bytes n bits o ++ r) → t ≡ eqb (included o) 1 → FitOptional n bits o
      → only t (low s at n bits) ≡ value_of o
  unfolding optional_bytes
  opt-says Optional.absent r f e h = rw e
  opt-says (Optional.there reserved value) r f e h =
      rw (e, field-says n (reserved * 2 ^ bits + value) r f h.1) (digits_mod reserved h.0)

-- what a field reads as
abbrev pub optional_from : Bool → ℕ → ℕ → List ℕ → ℕ → Optional
optional_from true n bits s at = Optional.there (number s at n / 2 ^ bits) (number s at n % 2 ^ bits)
optional_from false n bits s at = Optional.absent

module _ (n bits : ℕ) (s : List ℕ) (b : Octets s) (at : ℕ) where
  pub opt-fits : (t : Bool) → FitOptional n bits (optional_from t n bits s at)
  opt-fits true = (mod-lt (number s at n) (pow_pos bits), rw div-add-mod' (number_fits s b at n))
  opt-fits false = tt

  pub opt-reads : (t : Bool) → at + only t n ≤ length s → drop at s ≡ optional_bytes n bits (optional_from t n bits s at) ++ drop (at + only t n) s
  unfolding optional_bytes
  opt-reads true h = rw div-add-mod' (field-reads s b at n h)
  opt-reads false h = let z : at + 0 ≡ at = omega arith in rw z

-- its flag
pub opt-flag : (x n bits : ℕ) (s : List ℕ) (at : ℕ) → included (optional_from (eqb (x % 2) 1) n bits s at) ≡ x % 2
opt-flag x n bits s at =
    by (eqb (x % 2) 1)
    (λ t. let e : x % 2 ≡ 1 = eqb-true _ _ t in rw (t, e))
    (λ f. let d : ¬ (x % 2 ≡ 1) = eqb-false _ _ f in rw f (omega (arith, d)))
