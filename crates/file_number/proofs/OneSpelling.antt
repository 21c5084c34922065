-- A number has one spelling: reading what is written gives it back, and what is read is what would be written.
--   read-spelt      a number that is spelt, with anything after it, is read
--   only-spelt      what is read without 11 is spelt as it stands there
--   one-spelling    two numbers that are spelt at the front of the same bytes are one
--   three-most      a number takes at most three bytes
--   number-back     it comes back out of the number that crosses the boundary
--   refused-11      11 is given exactly when no number is spelt there
--   example-12      P12
use mathlib.Core.Path.{◌≡◌, refl, sym, ap, ◌∙◌}
use mathlib.Core.Bool.{◌||◌}
use mathlib.Core.List.{List, [], ◌∷◌, ◌++◌}
use mathlib.Core.Logic.{◌↔◌, ◌⊎◌, ⊎_elim, inl, inr}
use Prim.Native.Nat.{ℕ, ◌+◌, ◌*◌, ◌/◌, ◌%◌, ◌<◌, ◌≤◌}
use native.Mathlib.Omega.{arith}
use lib.Dec.{ltb}
use lib.ListN.{length}
use borrow.Author.Tests.{le-ltb, ne_eqb, ltb-true, ltb-false}
use Rattle.base.proofs.Cases.{by, same_or}
use Rattle.file_number.specs.Number.{largest, spelling, spelt, groups, worth, cut_off, last_is_zero, not_shortest, numeral, number_in, number_at, Bytes}
use Rattle.file_number.specs.Answer.{number_told, number_code, number_back, NumberBack}
use Rattle.std.specs.Prelude.{Result, Ok, Err}
use Rattle.refusal.specs.declared.Refusal.{Refusal}
use Rattle.refusal.specs.declared.Refusal.TheVariants.{BadNumber}
use Rattle.refusal.specs.Refusal.{number}
use Rattle.refusal.proofs.Numbers.{in_byte, back}
use Rattle.file_number.specs.declared.Number.{Number}
use Rattle.file_number.proofs.Spelling.{spelt-1, spelt-2, spelt-3}
use Rattle.file_number.proofs.Reading.{one_in, zero_in, two_in, zero-in-3, three-in, above_in}

pub read-spelt : (n : ℕ) → n ≤ largest → (rest : List ℕ) (at : ℕ) → number_in (spelt n ++ rest) at ≡ Ok (numeral n (at + length (spelt n)))
read-spelt n m rest at =
    by (ltb n 128)
    (λ t. let l : n < 128 = ltb-true n 128 t in rw (spelt-1 n l) (one_in at n rest l))
    (λ f.
    let g : 128 ≤ n = ltb-false n 128 f in
    by (ltb (n / 128) 128)
    (λ t.
    let l : n / 128 < 128 = ltb-true (n / 128) 128 t in
    let v : (128 + n % 128) % 128 + n / 128 * 128 ≡ n = omega arith in
    rw (spelt-2 n g l) (two_in at (128 + n % 128) (omega arith) (n / 128) rest (omega arith) l ∙ ap (λ k. Ok (numeral k (at + 2))) v))
    (λ h.
    let l : 128 ≤ n / 128 = ltb-false (n / 128) 128 h in
    let v : (128 + n % 128) % 128 + (128 + n / 128 % 128) % 128 * 128 + n / 128 / 128 * 16384 ≡ n = omega arith in
    rw (spelt-3 n g l)
    (three-in at (128 + n % 128) (omega arith) (128 + n / 128 % 128) (omega arith) (n / 128 / 128) rest (omega arith) (omega arith)
    ∙ ap (λ k. Ok (numeral k (at + 3))) v)))

-- a number that is spelt at the front of some bytes, and the place after it
pub record Spelt (s : List ℕ) (at n next : ℕ) : Type 0 where
  pub most : n ≤ largest
  pub rest : List ℕ
  pub here : s ≡ spelt n ++ rest
  pub after : next ≡ at + length (spelt n)

module _ {found : Number} {r : Refusal} where
  unlike : Ok found ≡ Err r → ⊥
  unlike e = cc

parted : (n low high : ℕ) → low < 128 → n ≡ low + high * 128 → (n % 128 ≡ low) × (n / 128 ≡ high)
parted n low high l e = (omega arith, omega arith)

module _ (at n next : ℕ) where
  -- the reading that the groups have is the one given
  told : {r : Result Number Refusal} (v after : ℕ) → r ≡ Ok (numeral v after) → r ≡ Ok (numeral n next) → (n ≡ v) × (next ≡ after)
  told v after p q = let e : numeral n next ≡ numeral v after = cc in (ap (λ w. w.value) e, ap (λ w. w.next) e)

  refuted : {A : Type 0} {r : Result Number Refusal} → r ≡ Err BadNumber → r ≡ Ok (numeral n next) → A
  refuted p q = absurd (unlike (sym q ∙ p))

  cut-1 : number_in [] at ≡ Err BadNumber
  unfolding number_in cut_off
  cut-1 = refl

  module _ (a : ℕ) (high : 128 ≤ a) where
    cut-2 : number_in (a ∷ []) at ≡ Err BadNumber
    unfolding number_in cut_off groups
    cut-2 = rw (le-ltb a 128 high)

    module _ (b : ℕ) (more : 128 ≤ b) where
      cut-3 : number_in (a ∷ b ∷ []) at ≡ Err BadNumber
      unfolding number_in cut_off groups
      cut-3 = rw (le-ltb a 128 high, le-ltb b 128 more)

      only-3 : (s : List ℕ) → Bytes (a ∷ b ∷ s) → number_in (a ∷ b ∷ s) at ≡ Ok (numeral n next) → Spelt (a ∷ b ∷ s) at n next
      only-3 [] w e = refuted cut-3 e
      only-3 (c ∷ s) w e =
          ⊎_elim
          (λ z. refuted (rw z (zero-in-3 at a high b more s)) e)
          (λ z.
          by (ltb 3 c)
          (λ t. refuted (above_in at a high b more c s (ltb-true 3 c t)) e)
          (λ t.
          let l : c ≤ 3 = ltb-false 3 c t in
          let k : (n ≡ a % 128 + b % 128 * 128 + c * 16384) × (next ≡ at + 3) = told _ _ (three-in at a high b more c s z l) e in
          let wa : a < 256 = w 0 in
          let wb : b < 256 = w 1 in
          let p : n ≡ a % 128 + b % 128 * 128 + c * 16384 = k.0 in
          let qa : 128 + n % 128 ≡ a = omega arith in
          let m : n / 128 ≡ (b % 128) + c * 128 = omega arith in
          let r = parted (n / 128) (b % 128) c (omega arith) m in
          let qb : 128 + n / 128 % 128 ≡ b = rw r.0 (omega arith) in
          let qc : n / 128 / 128 ≡ c = r.1 in
          let sp : spelt n ≡ a ∷ b ∷ c ∷ [] = spelt-3 n (omega arith) (omega arith) ∙ (rw (qa, qb, qc)) in
          record { most = omega arith; rest = s; here = rw sp; after = rw sp k.1 }))
          (same_or c 0)

    only-2 : (s : List ℕ) → Bytes (a ∷ s) → number_in (a ∷ s) at ≡ Ok (numeral n next) → Spelt (a ∷ s) at n next
    only-2 [] w e = refuted cut-2 e
    only-2 (b ∷ s) w e =
        ⊎_elim
        (λ z. refuted (rw z (zero_in at a high s)) e)
        (λ z.
        by (ltb b 128)
        (λ t.
        let l : b < 128 = ltb-true b 128 t in
        let k : (n ≡ a % 128 + b * 128) × (next ≡ at + 2) = told _ _ (two_in at a high b s z l) e in
        let wa : a < 256 = w 0 in
        let p : n ≡ a % 128 + b * 128 = k.0 in
        let qa : 128 + n % 128 ≡ a = omega arith in
        let qb : n / 128 ≡ b = omega arith in
        let sp : spelt n ≡ a ∷ b ∷ [] = spelt-2 n (omega arith) (omega arith) ∙ (rw (qa, qb)) in
        record { most = omega arith; rest = s; here = rw sp; after = rw sp k.1 })
        (λ t. only-3 b (ltb-false b 128 t) s w e))
        (same_or b 0)

  pub only-spelt : (s : List ℕ) → Bytes s → number_in s at ≡ Ok (numeral n next) → Spelt s at n next
  only-spelt [] w e = refuted cut-1 e
  only-spelt (a ∷ s) w e =
      by (ltb a 128)
      (λ t.
      let l : a < 128 = ltb-true a 128 t in
      let k : (n ≡ a) × (next ≡ at + 1) = told _ _ (one_in at a s l) e in
      let p : n ≡ a = k.0 in
      let sp : spelt n ≡ a ∷ [] = spelt-1 n (omega arith) ∙ (rw p) in
      record { most = omega arith; rest = s; here = rw sp; after = rw sp k.1 })
      (λ t. only-2 a (ltb-false a 128 t) s w e)

pub one-spelling : (m n : ℕ) → m ≤ largest → n ≤ largest → (a b : List ℕ) → spelt m ++ a ≡ spelt n ++ b → m ≡ n
one-spelling m n l k a b e =
    let p : number_in (spelt m ++ a) 0 ≡ Ok (numeral m (0 + length (spelt m))) = read-spelt m l a 0 in
    let q : number_in (spelt n ++ b) 0 ≡ Ok (numeral n (0 + length (spelt n))) = read-spelt n k b 0 in
    let w : numeral m (0 + length (spelt m)) ≡ numeral n (0 + length (spelt n)) = cc in
    ap (λ x. x.value) w

-- 11 or a number
answers : (s : List ℕ) (at : ℕ) → (number_in s at ≡ Err BadNumber) ⊎ (number_in s at ≡ Ok (numeral (worth (groups s)) (at + length (groups s))))
unfolding number_in
answers s at = by (cut_off s || (not_shortest s || ltb largest (worth (groups s)))) (λ t. inl (rw t)) (λ f. inr (rw f))

pub refused-11 : (s : List ℕ) → Bytes s → (at : ℕ)
    → ((number_told (number_in s at)).number ≡ 11) ↔ ((n : ℕ) → n ≤ largest → (rest : List ℕ) → s ≡ spelt n ++ rest → ⊥)
refused-11 s w at = (
  λ e n m rest q.
      let z : ◌≡◌ {A = ℕ} 11 0 = sym e ∙ ap (λ s. (number_told (number_in s at)).number) q ∙ ap (λ r. (number_told r).number) (read-spelt n m rest at) in
      omega arith,
  λ none.
      ⊎_elim
      (λ r. ap (λ x. (number_told x).number) r)
      (λ v. let k = only-spelt at _ _ s w v in absurd (none _ k.most k.rest k.here))
      (answers s at),
)

-- P12: number 128 is 80 01; 80 00 is refused 11
pub example-12 : (spelt 128 ≡ 0x80 ∷ 0x01 ∷ []) × (number_in (0x80 ∷ 0x00 ∷ []) 0 ≡ Err BadNumber)
unfolding spelling number_in cut_off groups worth last_is_zero
example-12 = (refl, refl)

-- a number takes at most three bytes
spelt-3-long : (n : ℕ) → length (spelt n) ≤ 3
unfolding spelling
spelt-3-long n =
    by (ltb n 128) (λ t. rw t (omega arith)) (λ f. by (ltb (n / 128) 128) (λ t. rw (f, t) (omega arith)) (λ t. rw (f, t) (omega arith)))

pub three-most : (s : List ℕ) → Bytes s → (n next : ℕ) → number_in s 0 ≡ Ok (numeral n next) → (n ≤ largest) × (next ≤ 3)
three-most s w n next e =
    let g = only-spelt 0 n next s w e in
    let l : length (spelt n) ≤ 3 = spelt-3-long n in
    (g.most, omega (arith, g.after))

pub size_same : (next : ℕ) → next ≤ 3 → next % 256 ≡ next
size_same next h = omega arith

-- the parts of the number that crosses the boundary
number_of : (n next : ℕ) → n ≤ largest → (256 * n + 16777216 * next) / 256 % 65536 ≡ n
number_of n next m = let whole : (256 * n + 16777216 * next) / 256 ≡ n + 65536 * next = omega arith in rw whole (omega arith)

size_of : (n next : ℕ) → n ≤ largest → (256 * n + 16777216 * next) / 16777216 ≡ next
size_of n next m = omega arith

back-value : (n next : ℕ) → n ≤ largest → next ≤ 3 → number_back (number_code (Ok (numeral n next))) ≡ Ok (numeral n next)
back-value n next m l =
    let low : (256 * n + 16777216 * next) % 256 ≡ 0 = omega arith in
    rw (low, number_of n next m, size_of n next m)

pub number-back : NumberBack
number-back bytes w = go (number_at bytes 0) refl
  where
    go : (r : Result Number Refusal) → number_at bytes 0 ≡ r → number_back (number_code r) ≡ r
    go (Ok found) e = let k = three-most bytes w found.value found.next e in back-value found.value found.next k.0 k.1
    go (Err r) e =
        let low : 0 < number r = (in_byte r).0 in
        let high : number r < 256 = (in_byte r).1 in
        rw (ne_eqb (number r % 256) 0 (omega arith)) (ap Err (back r))
