-- Pieces of text whose bytes are newlines or from 32 to 126.
--   Plain, plain-join, plain_word             byte by byte; of a join; of a word that is written out
--   plain-decimal, plain-lister, plain-long   of a number, and of those of the lister
--   plain-escaped                             of any name
use mathlib.Core.Path.{◌≡◌}
use mathlib.Core.Bool.{Bool, true, ◌&&◌, ◌||◌}
use mathlib.Core.List.{List, [], ◌∷◌, ◌++◌}
use mathlib.Core.Logic.{◌⊎◌, inl, inr}
use Prim.Native.Nat.{ℕ, zero, suc, ◌/◌, ◌%◌, ◌^◌, ◌<◌, ◌≤◌}
use native.Mathlib.Omega.{arith}
use lib.Dec.{ltb, leb, eqb}
use borrow.Author.Tests.{ltb-true, ltb-false, leb-true, eqb-true}
use Rattle.base.specs.Octets.{Octets}
use Rattle.base.proofs.Cases.{by, and_left, and_right}
use Rattle.file_listing.specs.Words as words
use Rattle.file_listing.specs.Words.{place, places, digits}
use Rattle.text.specs.Words.{decimal, hex_digit, plain, shown, escaped}
use Rattle.text.specs.Clean.{Clean}

-- a byte that ends a line, or is from 32 to 126
abbrev Good : ℕ → Type 0
Good b = (b ≡ 10) ⊎ ((32 ≤ b) × (b ≤ 126))

pub record Plain (t : List ℕ) : Type 0 where
  pub each : Clean t

none : Plain []
none = record { each = λ k h. absurd (omega arith) }

more : (b : ℕ) {t : List ℕ} → Good b → Plain t → Plain (b ∷ t)
more b {t} g p = record { each = go }
  where
    go : Clean (b ∷ t)
    go zero h = g
    go (suc k) h = p.each k (omega arith)

-- of a text with one byte more in front
rest : (x : ℕ) (a : List ℕ) → Plain (x ∷ a) → Plain a
rest x a p = record { each = λ k h. p.each (suc k) (omega arith) }

join : (a b : List ℕ) → Plain a → Plain b → Plain (a ++ b)
join [] b p q = q
join (x ∷ a) b p q = more x (p.each 0 (omega arith)) (join a b (rest x a p) q)

pub plain-join : {a b : List ℕ} → Plain a → Plain b → Plain (a ++ b)
plain-join {a} {b} p q = join a b p q

-- a word that is written out is tested by computing
unfoldable pub good : ℕ → Bool
good b = eqb b 10 || (leb 32 b && leb b 126)

unfoldable pub all-good : List ℕ → Bool
all-good [] = true
all-good (b ∷ t) = good b && all-good t

is-good : (b : ℕ) → good b ≡ true → Good b
unfolding good
is-good b e =
    by (eqb b 10)
    (λ t. inl (eqb-true b 10 t))
    (λ f.
    let r = rw f at e in
    inr (leb-true 32 b (and_left (leb 32 b) (leb b 126) r), leb-true b 126 (and_right (leb 32 b) (leb b 126) r)))

pub plain_word : (w : List ℕ) → all-good w ≡ true → Plain w
unfolding all-good
plain_word [] e = none
plain_word (b ∷ w) e = more b (is-good b (and_left (good b) (all-good w) e)) (plain_word w (and_right (good b) (all-good w) e))

-- one byte from 32 to 126
printed : (b : ℕ) → 32 ≤ b → b ≤ 126 → Good b
printed b l h = inr (l, h)

plain-place : (power n : ℕ) → Plain (place power n)
unfolding place
plain-place power n = by (leb power n) (λ t. rw t (more _ (printed _ (omega arith) (omega arith)) none)) (λ f. rw f none)

plain-places : (k n : ℕ) → Plain (places k n)
unfolding places
plain-places zero n = none
plain-places (suc k) n = plain-join (plain-place (10 ^ suc k) n) (plain-places k n)

plain-digits : (k n : ℕ) → Plain (digits k n)
plain-digits k n = plain-join (plain-places k n) (more _ (printed _ (omega arith) (omega arith)) none)

pub plain-decimal : (n : ℕ) → Plain (decimal n)
unfolding decimal
plain-decimal n = plain-digits 12 n

pub plain-lister : (n : ℕ) → Plain (words.decimal n)
unfolding words.decimal
plain-lister n = plain-digits 4 n

pub plain-long : (n : ℕ) → Plain (words.long_decimal n)
unfolding words.long_decimal
plain-long n = plain-digits 9 n

hex-printed : (d : ℕ) → d < 16 → Good (hex_digit d)
unfolding hex_digit
hex-printed d h =
    by (ltb d 10)
    (λ t. rw t (let l : d < 10 = ltb-true _ _ t in printed _ (omega arith) (omega arith)))
    (λ f. rw f (let l : 10 ≤ d = ltb-false _ _ f in printed _ (omega arith) (omega arith)))

as_plain : (b : ℕ) → plain b ≡ true → Good b
unfolding plain
as_plain b t = printed b (leb-true 32 b (and_left (leb 32 b) _ t)) (leb-true b 126 (and_left (leb b 126) _ (and_right (leb 32 b) _ t)))

plain-shown : (b : ℕ) → b < 256 → Plain (shown b)
unfolding shown
plain-shown b h =
    by (plain b)
    (λ t. rw t (more b (as_plain b t) none))
    (λ f.
    rw f
    (more 92 (printed 92 (omega arith) (omega arith))
    (more 120 (printed 120 (omega arith) (omega arith))
    (more _ (hex-printed (b / 16) (omega arith)) (more _ (hex-printed (b % 16) (omega arith)) none)))))

pub plain-escaped : (name : List ℕ) → Octets name → Plain (escaped name)
unfolding escaped
plain-escaped [] o = none
plain-escaped (b ∷ name) o = plain-join (plain-shown b (o 0)) (plain-escaped name (λ k. o (suc k)))
