-- What stands at a place of a file, for each way through the reader: the groups that were seen say which number it is, or that it is none.
--   none_1, none_2, none-3       the file ends before a group without its top bit
--   zero-2, zero-3, above-3      the last group is 0, or the third says too much
--   one, two, three              the number of one, two and three groups
use mathlib.Core.Path.{◌≡◌, sym}
use mathlib.Core.Bool.{false}
use mathlib.Core.List.{List, [], ◌∷◌}
use Prim.Native.Nat.{ℕ, suc, ◌+◌, ◌*◌, ◌%◌, ◌<◌, ◌≤◌}
use native.Mathlib.Numerals.{add-one}
use native.Mathlib.Omega.{arith}
use lib.Dec.{ltb}
use lib.ListN.{length, drop, drop_of_length-le}
use lib.Seq.{drop-cons}
use borrow.Author.Tests.{lt-ltb, le-ltb, ne_eqb, ltb-true, eqb-false}
use Rattle.base.specs.Bytes.{byte}
use Rattle.base.proofs.Cases.{by, unlike}
use Rattle.file_number.specs.Number.{groups, worth, cut_off, last_is_zero, numeral, number_in, number_at, largest}
use Rattle.std.specs.Prelude.{Ok, Err}
use Rattle.refusal.specs.declared.Refusal.TheVariants.{BadNumber}

-- the byte at a place, and those after it
from-here : (file : List ℕ) (at : ℕ) → at < length file → drop at file ≡ byte file at ∷ drop (at + 1) file
from-here file at h = rw (add-one, drop-cons file at 0)

-- a number that is not cut off and whose last group is not 0 is not 0
some-worth : (s : List ℕ) → cut_off s ≡ false → last_is_zero s ≡ false → 1 ≤ worth (groups s)
unfolding cut_off groups worth last_is_zero
some-worth [] c z = absurd (unlike c)
some-worth (b ∷ s) c z =
    by (ltb b 128)
    (λ t.
    let n : b ≡ 0 → ⊥ = eqb-false b 0 (rw t at z) in
    let l : b < 128 = ltb-true b 128 t in
    rw t (omega arith))
    (λ f. let ih : 1 ≤ worth (groups s) = some-worth s (rw f at c) (rw f at z) in rw f (omega arith))

-- the bytes from a place of the file on, one group after another
module _ (at : ℕ) where
  pub one_in : (a : ℕ) (s : List ℕ) → a < 128 → number_in (a ∷ s) at ≡ Ok (numeral a (at + 1))
  unfolding number_in cut_off groups worth last_is_zero
  one_in a s l =
      let e : a % 128 + 0 ≡ a = omega arith in
      rw (lt-ltb a 128 l, e, le-ltb largest a (omega arith))

  module _ (a : ℕ) (high : 128 ≤ a) where
    pub zero_in : (s : List ℕ) → number_in (a ∷ 0 ∷ s) at ≡ Err BadNumber
    unfolding number_in cut_off groups worth last_is_zero
    zero_in s = rw (le-ltb a 128 high)

    pub two_in : (b : ℕ) (s : List ℕ) → (b ≡ 0 → ⊥) → b < 128 → number_in (a ∷ b ∷ s) at ≡ Ok (numeral (a % 128 + b * 128) (at + 2))
    unfolding number_in cut_off groups worth last_is_zero
    two_in b s n l =
        let e : a % 128 + 128 * (b % 128 + 0) ≡ a % 128 + b * 128 = omega arith in
        rw (le-ltb a 128 high, lt-ltb b 128 l, ne_eqb b 0 n, e, le-ltb largest (a % 128 + b * 128) (omega arith))

    module _ (b : ℕ) (more : 128 ≤ b) where
      pub zero-in-3 : (s : List ℕ) → number_in (a ∷ b ∷ 0 ∷ s) at ≡ Err BadNumber
      unfolding number_in cut_off groups worth last_is_zero
      zero-in-3 s = rw (le-ltb a 128 high, le-ltb b 128 more)

      pub three-in : (c : ℕ) (s : List ℕ) → (c ≡ 0 → ⊥) → c ≤ 3
          → number_in (a ∷ b ∷ c ∷ s) at ≡ Ok (numeral (a % 128 + b % 128 * 128 + c * 16384) (at + 3))
      unfolding number_in cut_off groups worth last_is_zero
      three-in c s n l =
          let e : a % 128 + 128 * (b % 128 + 128 * (c % 128 + 0)) ≡ a % 128 + b % 128 * 128 + c * 16384 = omega arith in
          rw (
            le-ltb a 128 high,
            le-ltb b 128 more,
            lt-ltb c 128 (omega arith),
            ne_eqb c 0 n,
            e,
            le-ltb largest (a % 128 + b % 128 * 128 + c * 16384) (omega arith),
          )

      -- a third group above 3 says a number above 65,535, or its top bit is set and the number ends badly or is larger still
      pub above_in : (c : ℕ) (s : List ℕ) → 3 < c → number_in (a ∷ b ∷ c ∷ s) at ≡ Err BadNumber
      unfolding number_in cut_off groups worth last_is_zero
      above_in c s l =
          by (ltb c 128)
          (λ t.
          let e : c < 128 = ltb-true c 128 t in
          rw (
            le-ltb a 128 high,
            le-ltb b 128 more,
            t,
            ne_eqb c 0 (omega arith),
            lt-ltb largest (a % 128 + 128 * (b % 128 + 128 * (c % 128 + 0))) (omega arith),
          ))
          (λ f.
          by (cut_off s)
          (λ u. rw (le-ltb a 128 high, le-ltb b 128 more, f, u))
          (λ u.
          by (last_is_zero s)
          (λ z. rw (le-ltb a 128 high, le-ltb b 128 more, f, u, z, lt-ltb 1 (suc (suc (suc (length (groups s))))) (omega arith)))
          (λ z.
          let w : 1 ≤ worth (groups s) = some-worth s u z in
          rw (
            le-ltb a 128 high,
            le-ltb b 128 more,
            f,
            u,
            z,
            lt-ltb 1 (suc (suc (suc (length (groups s))))) (omega arith),
            lt-ltb largest (a % 128 + 128 * (b % 128 + 128 * (c % 128 + 128 * worth (groups s)))) (omega arith),
          ))))

module _ (file : List ℕ) (at : ℕ) where
  pub none_1 : length file ≤ at → Err BadNumber ≡ number_at file at
  unfolding number_in cut_off
  none_1 h = rw (drop_of_length-le file h)

  module _ (i : at < length file) where
    pub one : byte file at < 128 → Ok (numeral (byte file at) (at + 1)) ≡ number_at file at
    one l = rw (from-here file at i) (sym (one_in at _ _ l))

    module _ (a : 128 ≤ byte file at) where
      pub none_2 : length file ≤ at + 1 → Err BadNumber ≡ number_at file at
      unfolding number_in cut_off groups
      none_2 h = rw (from-here file at i, le-ltb (byte file at) 128 a, drop_of_length-le file h)

      module _ (j : at + 1 < length file) where
        after-1 : drop at file ≡ byte file at ∷ byte file (at + 1) ∷ drop (at + 1 + 1) file
        after-1 = rw (from-here file at i, from-here file (at + 1) j)

        pub zero-2 : byte file (at + 1) ≡ 0 → Err BadNumber ≡ number_at file at
        zero-2 z = rw (after-1, z) (sym (zero_in at _ a _))

        module _ (n : byte file (at + 1) ≡ 0 → ⊥) where
          pub two : byte file (at + 1) < 128 → Ok (numeral (byte file at % 128 + byte file (at + 1) * 128) (at + 1 + 1)) ≡ number_at file at
          two l = let e : at + 1 + 1 ≡ at + 2 = omega arith in rw (after-1, e) (sym (two_in at _ a _ _ n l))

          module _ (b : 128 ≤ byte file (at + 1)) where
            pub none-3 : length file ≤ at + 1 + 1 → Err BadNumber ≡ number_at file at
            unfolding number_in cut_off groups
            none-3 h = rw (after-1, le-ltb (byte file at) 128 a, le-ltb (byte file (at + 1)) 128 b, drop_of_length-le file h)

            module _ (k : at + 1 + 1 < length file) where
              after-2 : drop at file ≡ byte file at ∷ byte file (at + 1) ∷ byte file (at + 1 + 1) ∷ drop (at + 1 + 1 + 1) file
              after-2 = rw (after-1, from-here file (at + 1 + 1) k)

              pub zero-3 : byte file (at + 1 + 1) ≡ 0 → Err BadNumber ≡ number_at file at
              zero-3 z = rw (after-2, z) (sym (zero-in-3 at _ a _ b _))

              module _ (m : byte file (at + 1 + 1) ≡ 0 → ⊥) where
                pub above-3 : 3 < byte file (at + 1 + 1) → Err BadNumber ≡ number_at file at
                above-3 l = rw after-2 (sym (above_in at _ a _ b _ _ l))

                pub three : byte file (at + 1 + 1) ≤ 3
                    → Ok (numeral (byte file at % 128 + byte file (at + 1) % 128 * 128 + byte file (at + 1 + 1) * 16384) (at + 1 + 1 + 1))
                    ≡ number_at file at
                three l = let e : at + 1 + 1 + 1 ≡ at + 3 = omega arith in rw (after-2, e) (sym (three-in at _ a _ b _ _ m l))
