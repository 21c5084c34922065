-- Laws on the bits of a mask.
--   set-big       a number with bit n is at least 2 ^ n
--   none_above    shifted down by last it is at most 1: no bit above last
--   one_set       a number below 2 ^ k that is not 0 has a bit below k
--   bit-set, bit_kept   the bits of `m | 1 << n`
use mathlib.Core.Path.{◌≡◌, ap, ◌∙◌}
use mathlib.Core.Bool.{true}
use Prim.Native.Nat.{ℕ, zero, suc, ◌+◌, ◌-◌, ◌*◌, ◌/◌, ◌%◌, ◌^◌, ◌<◌, ◌≤◌, max}
use native.Mathlib.Nat.{le-div_iff_mul-le, div-lt_iff_lt-mul, two-pow-succ, mul-div_cancel, max-zero}
use native.Mathlib.Numerals.{add-one}
use native.Mathlib.Omega.{arith}
use lib.Dec.{ltb}
use lib.Pow.{pow_pos, pow_mono, pow-lt, pow-add}
use lib.Bits.{bit_or, or_step, or_shr}
use borrow.Author.Tests.{eqb-true, eq-eqb, ltb-true, ltb-false}
use Rattle.base.specs.Below.{some}
use Rattle.base.proofs.Below.{some-found}
use Rattle.base.proofs.Cases.{by}
use Rattle.base.specs.Bits.{bit}

pub set-big : (m n : ℕ) → bit m n ≡ true → 2 ^ n ≤ m
set-big m n e =
    let b : m / 2 ^ n % 2 ≡ 1 = eqb-true _ _ e in
    let q : 1 ≤ m / 2 ^ n = omega arith in
    omega (arith, (le-div_iff_mul-le {k = 2 ^ n} {x = 1} {y = m} (pow_pos n)).0 q)

pub none_above : (m last n : ℕ) → m / 2 ^ last ≤ 1 → bit m n ≡ true → n ≤ last
none_above m last n h e =
    by (ltb last n)
    (λ t.
    let l : last < n = ltb-true _ _ t in
    let big : 2 ^ n ≤ m = set-big m n e in
    let up : 2 ^ suc last ≤ 2 ^ n = pow_mono l in
    let small : m < 2 * 2 ^ last = (div-lt_iff_lt-mul {k = 2 ^ last} {x = m} {y = 2} (pow_pos last)).0 (omega arith) in
    absurd (omega (arith, two-pow-succ last)))
    (λ f. ltb-false _ _ f)

pub one_set : (k m : ℕ) → m < 2 ^ k → (m ≡ 0 → ⊥) → some k (bit m) ≡ true
unfolding some
one_set zero m h d = absurd (d (omega arith))
one_set (suc k) m h d =
    by (ltb m (2 ^ k))
    (λ t. rw (one_set k m (ltb-true _ _ t) d))
    (λ f.
    let low : 1 ≤ m / 2 ^ k = (le-div_iff_mul-le {k = 2 ^ k} {x = 1} {y = m} (pow_pos k)).1 (omega (arith, ltb-false m (2 ^ k) f)) in
    let high : m / 2 ^ k < 2 = (div-lt_iff_lt-mul {k = 2 ^ k} {x = m} {y = 2} (pow_pos k)).1 (omega (arith, two-pow-succ k)) in
    some-found (bit m) (suc k) k (omega arith) (eq-eqb (m / 2 ^ k % 2) 1 (omega arith)))

-- the bits of a power of two
one-low : (n k : ℕ) → n < k → 2 ^ n / 2 ^ k ≡ 0
one-low n k h = omega (arith, (div-lt_iff_lt-mul {k = 2 ^ k} {x = 2 ^ n} {y = 1} (pow_pos k)).1 (omega (arith, pow-lt h)))

one-high : (n k : ℕ) → k < n → 2 ^ n / 2 ^ k % 2 ≡ 0
one-high n k h =
    let d : n ≡ (n - k - 1) + 1 + k = omega arith in
    let e : 2 ^ n ≡ 2 ^ ((n - k - 1) + 1) * 2 ^ k = ap (2 ^◌) d ∙ pow-add 2 ((n - k - 1) + 1) k in
    let q : 2 ^ n / 2 ^ k ≡ 2 ^ ((n - k - 1) + 1) = ap (◌/ 2 ^ k) e ∙ mul-div_cancel (2 ^ ((n - k - 1) + 1)) (pow_pos k) in
    let t : 2 ^ ((n - k - 1) + 1) ≡ 2 ^ (n - k - 1) + 2 ^ (n - k - 1) = rw add-one (two-pow-succ (n - k - 1)) in
    omega arith

one_same : (n : ℕ) → 2 ^ n / 2 ^ n ≡ 1
one_same n = (let e : 2 ^ n ≡ 1 * 2 ^ n = omega arith in ap (◌/ 2 ^ n) e) ∙ mul-div_cancel 1 (pow_pos n)

or-odd : (a b : ℕ) → bit_or a b % 2 ≡ max (a % 2) (b % 2)
or-odd a b = ap (◌% 2) (or_step a b) ∙ (let l : max (a % 2) (b % 2) < 2 = omega arith in omega arith)

pub bit-set : (m n : ℕ) → bit (bit_or m (2 ^ n)) n ≡ true
bit-set m n = rw (or_shr m (2 ^ n) n, or-odd, one_same n) (eq-eqb (max (m / 2 ^ n % 2) (1 % 2)) 1 (omega arith))

pub bit_kept : (m n k : ℕ) → (k ≡ n → ⊥) → bit (bit_or m (2 ^ n)) k ≡ bit m k
bit_kept m n k d =
    let z : 2 ^ n / 2 ^ k % 2 ≡ 0 = by (ltb n k) (λ t. rw (one-low n k (ltb-true _ _ t))) (λ f. one-high n k (omega (arith, d, ltb-false n k f))) in
    rw (or_shr m (2 ^ n) k, or-odd, z, max-zero)

-- 1 shifted up, in 16 bits
pub one_up : (n : ℕ) → n < 16 → (1 * 2 ^ n) % 65536 ≡ 2 ^ n
one_up n h = let l : 2 ^ n < 65536 = pow-lt {i = n} {j = 16} h in omega arith
