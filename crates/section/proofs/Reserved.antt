-- Reserved bits are disregarded (document 01, "A section").
--   disregarded   two payloads that differ at most in them (`SameButReserved`) have one reading
--   for-example   there are such payloads that do differ
use mathlib.Core.Path.{◌≡◌, refl}
use mathlib.Core.List.{List, [], ◌∷◌}
use mathlib.Core.Bool.{false, ◌||◌}
use Prim.Native.Nat.{ℕ, zero, suc}
use native.Mathlib.Omega.{arith}
use lib.Dec.{eqb}
use borrow.Author.Tests.{eqb-false}
use Rattle.base.specs.Bytes.{byte}
use Rattle.base.proofs.Cases.{or_left, or_right}
use Rattle.section.specs.Section.{syntax_indicator, version, current_next, read_of}
use Rattle.section.specs.Theorems.{SameButReserved, Disregarded}

module _ (s t : List ℕ) (same : SameButReserved s t) where
  byte-same : (k : ℕ) → eqb k 1 || eqb k 5 ≡ false → byte s k ≡ byte t k
  byte-same k e = same.elsewhere k (eqb-false k 1 (or_left (eqb k 1) (eqb k 5) e)) (eqb-false k 5 (or_right (eqb k 1) (eqb k 5) e))

  syntax-same : syntax_indicator s ≡ syntax_indicator t
  syntax-same = omega (arith, same.above_reserved)

  version-same : version s ≡ version t
  version-same = omega (arith, same.version_and_current)

  current-same : current_next s ≡ current_next t
  current-same = omega (arith, same.version_and_current)

  read_alike : read_of s ≡ read_of t
  unfolding read_of
  read_alike =
      rw (
        same.size,
        byte-same 0 refl,
        syntax-same,
        same.above_reserved,
        same.below_reserved,
        byte-same 2 refl,
        byte-same 3 refl,
        byte-same 4 refl,
        version-same,
        current-same,
        byte-same 6 refl,
        byte-same 7 refl,
        byte-same 8 refl,
        byte-same 9 refl,
        byte-same 10 refl,
        byte-same 11 refl,
        byte-same 12 refl,
        byte-same 13 refl,
      )

pub disregarded : (s t : List ℕ) → Disregarded s t
disregarded s t same = read_alike s t same

-- document 01's P1, and the same with its four reserved bits cleared
abbrev p1 : List ℕ
p1 = 0xC9 ∷ 0x70 ∷ 0x05 ∷ 0x12 ∷ 0x34 ∷ 0xC7 ∷ 0x00 ∷ 0x00 ∷ []

abbrev cleared : List ℕ
cleared = 0xC9 ∷ 0x40 ∷ 0x05 ∷ 0x12 ∷ 0x34 ∷ 0x07 ∷ 0x00 ∷ 0x00 ∷ []

pub for-example : SameButReserved p1 cleared
for-example = record { size = refl; elsewhere = every; above_reserved = refl; below_reserved = refl; version_and_current = refl }
  where
    every : (k : ℕ) → ¬ (k ≡ 1) → ¬ (k ≡ 5) → byte p1 k ≡ byte cleared k
    every zero a b = refl
    every (suc zero) a b = absurd (a refl)
    every (suc (suc zero)) a b = refl
    every (suc (suc (suc zero))) a b = refl
    every (suc (suc (suc (suc zero)))) a b = refl
    every (suc (suc (suc (suc (suc zero))))) a b = absurd (b refl)
    every (suc (suc (suc (suc (suc (suc k)))))) a b = refl
