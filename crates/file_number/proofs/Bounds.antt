-- How far a number reaches.
--   within        a number that is read ends inside the file, after the place where it begins, and is at most 65,535
--   spelt-some, spelt-1-long, spelt-2-long   how many groups a number takes
use mathlib.Core.Path.{◌≡◌, ap}
use mathlib.Core.Bool.{false, ◌||◌}
use mathlib.Core.List.{List, [], ◌∷◌}
use Prim.Native.Nat.{ℕ, ◌+◌, ◌<◌, ◌≤◌, ◌-◌}
use native.Mathlib.Omega.{arith}
use lib.Dec.{ltb}
use lib.ListN.{length, drop, length-drop}
use borrow.Author.Tests.{ltb-true, ltb-false}
use Rattle.std.specs.Prelude.{Result, Ok, Err}
use Rattle.refusal.specs.declared.Refusal.{Refusal}
use Rattle.refusal.specs.declared.Refusal.TheVariants.{BadNumber}
use Rattle.base.proofs.Cases.{by, unlike, or_left, or_right}
use Rattle.file_number.specs.Number.{largest, spelling, spelt, groups, worth, cut_off, not_shortest, numeral, number_in, number_at}
use Rattle.file_number.specs.declared.Number.{Number}
use Rattle.file_number.proofs.Spelling.{spelt-1, spelt-2}

-- groups that are not cut off are some, and stand in the bytes
some-groups : (s : List ℕ) → cut_off s ≡ false → (1 ≤ length (groups s)) × (length (groups s) ≤ length s)
unfolding cut_off groups
some-groups [] c = absurd (unlike c)
some-groups (b ∷ s) c =
    by (ltb b 128)
    (λ t. rw t (omega arith, omega arith))
    (λ f. let h : (1 ≤ length (groups s)) × (length (groups s) ≤ length s) = some-groups s (rw f at c) in rw f (omega arith, omega arith))

module _ (s : List ℕ) (at n next : ℕ) where
  passed : number_in s at ≡ Ok (numeral n next)
      → (cut_off s ≡ false) × (worth (groups s) ≤ largest) × (n ≡ worth (groups s)) × (next ≡ at + length (groups s))
  unfolding number_in
  passed e =
      by (cut_off s || (not_shortest s || ltb largest (worth (groups s))))
      (λ t. let z : ◌≡◌ {A = Result Number Refusal} (Err BadNumber) (Ok (numeral n next)) = rw t at e in cc)
      (λ f.
      let z : Ok (numeral (worth (groups s)) (at + length (groups s))) ≡ Ok (numeral n next) = rw f at e in
      let r : not_shortest s || ltb largest (worth (groups s)) ≡ false = or_right (cut_off s) _ f in
      let q : numeral n next ≡ numeral (worth (groups s)) (at + length (groups s)) = cc in
      (or_left (cut_off s) _ f, ltb-false _ _ (or_right (not_shortest s) _ r), ap (λ w. w.value) q, ap (λ w. w.next) q))

pub within : (file : List ℕ) (at n next : ℕ) → number_at file at ≡ Ok (numeral n next) → (n ≤ largest) × (at < next) × (next ≤ length file)
within file at n next e =
    let p = passed (drop at file) at n next e in
    let k : (1 ≤ length (groups (drop at file))) × (length (groups (drop at file)) ≤ length (drop at file)) = some-groups (drop at file) p.0 in
    let l : length (groups (drop at file)) ≤ length file - at = rw (← length-drop at file) k.1 in
    let v : n ≡ worth (groups (drop at file)) = p.2 in
    let m : worth (groups (drop at file)) ≤ largest = p.1 in
    let q : next ≡ at + length (groups (drop at file)) = p.3 in
    (omega arith, omega arith, omega arith)

pub spelt-1-long : (n : ℕ) → n < 128 → length (spelt n) ≡ 1
spelt-1-long n l = rw (spelt-1 n l)

pub spelt-some : (n : ℕ) → 1 ≤ length (spelt n)
unfolding spelling
spelt-some n = by (ltb n 128) (λ t. rw t (omega arith)) (λ f. rw f (omega arith))

pub spelt-2-long : (n : ℕ) → n < 16384 → length (spelt n) ≤ 2
spelt-2-long n l =
    by (ltb n 128)
    (λ t. rw (spelt-1 n (ltb-true n 128 t)) (omega arith))
    (λ f. rw (spelt-2 n (ltb-false n 128 f) (omega arith)) (omega arith))
