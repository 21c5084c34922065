-- How a number is written digit by digit.
--   none, next, all        the digits of the first powers, of one more, and the whole number
--   ten-less, ten-up       the powers
use mathlib.Core.Path.{◌≡◌, sym, ap, ◌∙◌}
use mathlib.Core.List.{[], ◌∷◌, ◌++◌, append_assoc, append-nil}
use Prim.Native.Nat.{ℕ, zero, suc, ◌+◌, ◌-◌, ◌/◌, ◌%◌, ◌^◌, ◌<◌, ◌≤◌}
use native.Mathlib.Nat.{pow-suc, one-le-pow}
use native.Mathlib.Omega.{arith}
use Rattle.file_listing.specs.Words.{place, places, digits}
use Rattle.file_listing.specs.Growing.{shown, Grew}
use Rattle.file_listing.specs.declared.Text.{Text}

pub ten-less : (k : ℕ) → 0 < k → 10 ^ k / 10 ≡ 10 ^ (k - 1)
ten-less zero h = absurd (omega arith)
ten-less (suc k) h = let e : suc k - 1 ≡ k = omega arith in rw (pow-suc 10 k, e) (omega arith)

pub ten-up : (k : ℕ) → 0 < 10 ^ k
ten-up k = one-le-pow k 10 (omega arith)

parts : (k n : ℕ) → 0 < k → places k n ≡ place (10 ^ k) n ++ places (k - 1) n
unfolding places
parts zero n h = absurd (omega arith)
parts (suc k) n h = let e : suc k - 1 ≡ k = omega arith in rw e

-- the digits of the first i powers are written, and those that are left would make up the number
pub record Digits (powers n i : ℕ) (before now : Text) : Type 0 where
  pub left : shown now ++ places (powers - i) n ≡ shown before ++ places powers n
  pub within : now.size ≤ before.size + i

module _ (powers n : ℕ) where
  pub none : (t : Text) → Digits powers n 0 t t
  none t = record { left = (let e : powers - 0 ≡ powers = omega arith in rw e); within = omega arith }

  pub next : {before t r : Text} (i power : ℕ) → i < powers → power ≡ 10 ^ (powers - i) → Digits powers n i before t → Grew (place power n) 1 t r
      → Digits powers n (i + 1) before r
  next {before = before} {t = t} {r = r} i power l e d g =
      let k : powers - (i + 1) ≡ powers - i - 1 = omega arith in
      let a : t.size ≤ before.size + i = d.within in
      let b : r.size ≤ t.size + 1 = g.within in
      record {
        left =
            ap (λ s. s ++ places (powers - (i + 1)) n) (g.shows ∙ ap (λ p. shown t ++ place p n) e)
            ∙ append_assoc (shown t) (place (10 ^ (powers - i)) n) (places (powers - (i + 1)) n)
            ∙ ap (λ m. shown t ++ (place (10 ^ (powers - i)) n ++ places m n)) k
            ∙ ap (λ s. shown t ++ s) (sym (parts (powers - i) n (omega arith)))
            ∙ d.left;
        within = omega arith;
      }

  pub all : {before t r : Text} → Digits powers n powers before t → Grew ((48 + n % 10) ∷ []) 1 t r → Grew (digits powers n) (powers + 1) before r
  unfolding places
  all {before = before} {t = t} {r = r} d g =
      let z : powers - powers ≡ 0 = omega arith in
      let a : t.size ≤ before.size + powers = d.within in
      let b : r.size ≤ t.size + 1 = g.within in
      let w : shown t ≡ shown before ++ places powers n = sym (append-nil (shown t)) ∙ ap (λ k. shown t ++ places k n) (sym z) ∙ d.left in
      record {
        shows = g.shows ∙ ap (λ s. s ++ ((48 + n % 10) ∷ [])) w ∙ append_assoc (shown before) (places powers n) ((48 + n % 10) ∷ []);
        within = omega arith;
      }
