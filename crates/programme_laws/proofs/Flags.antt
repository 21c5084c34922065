-- The ten flags, in a number and one by one.
--   ninth .. zeroth   each of the ten that are written
--   gathered          the ten that are read, written
use mathlib.Core.Path.{◌≡◌}
use Prim.Native.Nat.{ℕ, ◌+◌, ◌*◌, ◌/◌, ◌%◌, ◌^◌, ◌<◌}
use native.Mathlib.Omega.{arith}
use Rattle.programme_laws.specs.Layout.{Optional, included}

pub included-bit : (o : Optional) → included o < 2
included-bit Optional.absent = omega arith
included-bit (Optional.there r v) = omega arith

-- ten bits, the first highest
abbrev pub ten : ℕ → ℕ → ℕ → ℕ → ℕ → ℕ → ℕ → ℕ → ℕ → ℕ → ℕ
ten a b c d e f g h i j =
    a * 2 ^ 9 + b * 2 ^ 8 + c * 2 ^ 7 + d * 2 ^ 6 + e * 2 ^ 5 + f * 2 ^ 4 + g * 2 ^ 3 + h * 2 ^ 2 + i * 2 + j

module _ (a b c d e f g h i j : ℕ) (bb : b < 2) (cb : c < 2) (db : d < 2) (eb : e < 2) (fb : f < 2) (gb : g < 2) (hb : h < 2) (ib : i < 2) (jb : j < 2) where
  pub ninth : a < 2 → ten a b c d e f g h i j / 2 ^ 9 % 2 ≡ a
  ninth ab = omega arith

  pub eighth : ten a b c d e f g h i j / 2 ^ 8 % 2 ≡ b
  eighth = omega arith

  pub seventh : ten a b c d e f g h i j / 2 ^ 7 % 2 ≡ c
  seventh = omega arith

  pub sixth : ten a b c d e f g h i j / 2 ^ 6 % 2 ≡ d
  sixth = omega arith

  pub fifth : ten a b c d e f g h i j / 2 ^ 5 % 2 ≡ e
  fifth = omega arith

  pub fourth : ten a b c d e f g h i j / 2 ^ 4 % 2 ≡ f
  fourth = omega arith

  pub third : ten a b c d e f g h i j / 2 ^ 3 % 2 ≡ g
  third = omega arith

  pub second : ten a b c d e f g h i j / 2 ^ 2 % 2 ≡ h
  second = omega arith

  pub first : ten a b c d e f g h i j / 2 % 2 ≡ i
  first = omega arith

  pub zeroth : ten a b c d e f g h i j % 2 ≡ j
  zeroth = omega arith

-- a number and its ten halves
halved :
    (x0 x1 x2 x3 x4 x5 x6 x7 x8 x9 b0 b1 b2 b3 b4 b5 b6 b7 b8 b9 : ℕ)
    → x0 ≡ x1 * 2 + b0
    → x1 ≡ x2 * 2 + b1
    → x2 ≡ x3 * 2 + b2
    → x3 ≡ x4 * 2 + b3
    → x4 ≡ x5 * 2 + b4
    → x5 ≡ x6 * 2 + b5
    → x6 ≡ x7 * 2 + b6
    → x7 ≡ x8 * 2 + b7
    → x8 ≡ x9 * 2 + b8
    → x9 ≡ b9
    → ten b9 b8 b7 b6 b5 b4 b3 b2 b1 b0 ≡ x0
halved x0 x1 x2 x3 x4 x5 x6 x7 x8 x9 b0 b1 b2 b3 b4 b5 b6 b7 b8 b9 h0 h1 h2 h3 h4 h5 h6 h7 h8 h9 = omega arith

pub gathered : (x : ℕ) → x < 1024
    → ten (x / 2 ^ 9 % 2) (x / 2 ^ 8 % 2) (x / 2 ^ 7 % 2) (x / 2 ^ 6 % 2) (x / 2 ^ 5 % 2) (x / 2 ^ 4 % 2) (x / 2 ^ 3 % 2) (x / 2 ^ 2 % 2) (x / 2 % 2) (x % 2)
    ≡ x
gathered x h =
    halved x (x / 2) (x / 2 ^ 2) (x / 2 ^ 3) (x / 2 ^ 4) (x / 2 ^ 5) (x / 2 ^ 6) (x / 2 ^ 7) (x / 2 ^ 8) (x / 2 ^ 9)
    (x % 2) (x / 2 % 2) (x / 2 ^ 2 % 2) (x / 2 ^ 3 % 2) (x / 2 ^ 4 % 2) (x / 2 ^ 5 % 2) (x / 2 ^ 6 % 2) (x / 2 ^ 7 % 2) (x / 2 ^ 8 % 2) (x / 2 ^ 9 % 2)
    (omega arith) (omega arith) (omega arith) (omega arith) (omega arith) (omega arith) (omega arith) (omega arith) (omega arith) (omega arith)
