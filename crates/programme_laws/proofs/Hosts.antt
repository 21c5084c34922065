-- A host loses nothing by the numbers that cross the boundary (`programme_answers`, `specs/Lent.antt` has the words).
--   read_untouched, read_refused, read_accepted, read_15, read_comes_back
--   own_comes_back
use mathlib.Core.Path.{◌≡◌, refl, sym, ap, subst, ◌∙◌}
use mathlib.Core.List.{List, ◌++◌}
use mathlib.Core.Logic.{◌⊎◌, ⊎_elim}
use Prim.Native.Nat.{ℕ, ◌+◌, ◌*◌, ◌/◌, ◌%◌, ◌^◌, ◌<◌, ◌≤◌}
use native.Mathlib.Omega.{arith}
use lib.Dec.{ltb}
use lib.ListN.{length, drop}
use borrow.Author.Tests.{ltb-true, ltb-false, eq-eqb, ne_eqb}
use Rattle.base.specs.Bytes.{byte}
use Rattle.base.proofs.Cases.{by}
use Rattle.section.specs.Theorems.{OwnNumber}
use Rattle.std.specs.Prelude.{Ok, Err}
use Rattle.refusal.specs.Refusal.{number}
use Rattle.refusal.specs.declared.Refusal.{Refusal}
use Rattle.refusal.specs.declared.Refusal.TheVariants.{ProgrammePassesEnd, ProgrammeOtherTable}
use Rattle.refusal.proofs.Numbers.{in_byte, back}
use Rattle.answers.specs.Answers.{Out, out}
use Rattle.answers.proofs.Puts.{puts-untouched}
use Rattle.programme.specs.Reading.{Reading, Own, read_of, own_of}
use Rattle.programme.specs.Answer.{reading_told, programme_numbers}
use Rattle.programme.specs.declared.Programme.{Programme}
use Rattle.programme.specs.declared.Loop.{Loop}
use Rattle.programme.proofs.Within.{own-ends}
use Rattle.programme_answers.specs.Lent.{read_lent, loop_code, own_code, programme_back, own_back}
use Rattle.programme_answers.specs.Lent.{ReadUntouched, ReadRefused, ReadAccepted, Read15, ReadComesBack, OwnComesBack}
use Rattle.programme_answers.proofs.Laws as laws
use Rattle.programme_laws.proofs.ExactlyWhen as when

-- a number of refusal: neither 0 nor 15, and in 8 bits
pub record Number (n : ℕ) : Type 0 where
  pub low : 0 < n
  pub high : n < 256
  pub other : ¬ (n ≡ 15)

pub numbered : {n : Refusal} → OwnNumber (number n) ⊎ ((n ≡ ProgrammePassesEnd) ⊎ (n ≡ ProgrammeOtherTable)) → Number (number n)
numbered {n} x =
    let byte = in_byte n in
    record {
      low = byte.0;
      high = byte.1;
      other = λ z.
          ⊎_elim (λ y. ⊎_elim (λ v. omega (arith, v.1)) (λ q. omega arith) y)
          (λ y. ⊎_elim (λ q. let w : number n ≡ 43 = ap number q in omega arith) (λ q. let w : number n ≡ 45 = ap number q in omega arith) y)
          x;
    }

module _ (s fields : List ℕ) where
  -- what is so of each way out is so of the call
  read-each : (q : Out → Type 0)
      → ((n : Refusal) → read_of s ≡ Err n → Number (number n) → q (out (number n) fields))
      → ((p : Programme) → read_of s ≡ Ok p → length fields < 4 → q (out 15 fields))
      → ((p : Programme) → read_of s ≡ Ok p → 4 ≤ length fields → q (out 0 (programme_numbers p ++ drop 4 fields)))
      → q (read_lent s fields)
  read-each q a b c = go (read_of s) refl
    where
      go : (r : Reading) → read_of s ≡ r → q (read_lent s fields)
      go (Err n) e = subst q (laws.read_refused s fields refl e) (a n e (numbered (when.read_range s n e)))
      go (Ok p) e =
          by (ltb (length fields) 4)
          (λ t. let h : length fields < 4 = ltb-true _ _ t in subst q (laws.read_short s fields p e h) (b p e h))
          (λ f. let h : 4 ≤ length fields = ltb-false _ _ f in subst q (laws.read-put s fields p e h refl) (c p e h))

  pub read_untouched : ReadUntouched s fields
  unfolding read_lent
  read_untouched = puts-untouched (reading_told (read_of s)) fields

  pub read_refused : ReadRefused s fields
  read_refused n z f = (
    read-each (λ o. o.code ≡ n → (r : Refusal) × ((number r ≡ n) × (read_of s ≡ Err r)))
        (λ m e h q. (m, (q, e)))
        (λ p e h q. absurd (f (sym q)))
        (λ p e h q. absurd (z (sym q))),
    λ w. ap (λ (o : Out). o.code) (sym (laws.read_refused s fields refl w.1.1)) ∙ w.1.0,
  )

  pub read_accepted : ReadAccepted s fields
  read_accepted = (
    read-each (λ o. o.code ≡ 0 → ((p : Programme) × (read_of s ≡ Ok p)) × (4 ≤ length fields))
        (λ n e h z. absurd (let l : 0 < number n = h.low in omega arith))
        (λ p e h z. absurd (omega arith))
        (λ p e h z. ((p, e), h)),
    λ w. ap (λ (o : Out). o.code) (sym (laws.read-put s fields w.0.0 w.0.1 w.1 refl)),
  )

  pub read_15 : Read15 s fields
  read_15 = (
    read-each (λ o. o.code ≡ 15 → ((p : Programme) × (read_of s ≡ Ok p)) × (length fields < 4))
        (λ n e h z. absurd (h.other z))
        (λ p e h z. ((p, e), h))
        (λ p e h z. absurd (omega arith)),
    λ w. ap (λ (o : Out). o.code) (sym (laws.read_short s fields w.0.0 w.0.1 w.1)),
  )

  pub read_comes_back : ReadComesBack s fields
  read_comes_back =
      read-each (λ o. o.code ≡ 0 → read_of s ≡ Ok (programme_back o.out))
      (λ n e h z. absurd (let l : 0 < number n = h.low in omega arith))
      (λ p e h z. absurd (omega arith))
      (λ p e h z. e)

-- what stands below a multiple
low_byte : (x y : ℕ) → x < 256 → (x + y * 256) % 2 ^ 8 ≡ x
low_byte x y h = omega arith

low_word : (x y : ℕ) → x < 65536 → (x + y * 65536) % 2 ^ 16 ≡ x
low_word x y h = omega arith

-- a loop comes back out of its number
loop-back : (l : Loop) → l.count < 256 → l.place < 65536 → own_back (loop_code l) ≡ Ok l
loop-back l c p =
    let zero : loop_code l % 2 ^ 8 ≡ 0 = omega arith in
    let count : loop_code l / 2 ^ 8 % 2 ^ 8 ≡ l.count
    = (let half : loop_code l / 2 ^ 8 ≡ l.count + (l.place + l.length * 65536) * 256 = omega arith in ap (λ x. x % 2 ^ 8) half ∙ low_byte l.count _ c) in
    let place : loop_code l / 2 ^ 16 % 2 ^ 16 ≡ l.place
    = (let half : loop_code l / 2 ^ 16 ≡ l.place + l.length * 65536 = omega arith in ap (λ x. x % 2 ^ 16) half ∙ low_word l.place l.length p) in
    let size : loop_code l / 2 ^ 32 ≡ l.length = omega arith in
    rw (eq-eqb (loop_code l % 2 ^ 8) 0 zero, count, place, size)

refusal-back : (n : Refusal) → own_back (number n) ≡ Err n
refusal-back n =
    let low : 0 < number n = (in_byte n).0 in
    let high : number n < 256 = (in_byte n).1 in
    rw (ne_eqb (number n % 2 ^ 8) 0 (omega arith)) (ap Err (back n))

pub own_comes_back : (s : List ℕ) (at : ℕ) → OwnComesBack s at
own_comes_back s at b = go (own_of s at) refl
  where
    go : (x : Own) → own_of s at ≡ x → own_back (own_code x) ≡ x
    go (Err n) e = refusal-back n
    go (Ok l) e =
        let w = own-ends s at l e in
        let count : l.count ≡ byte s at = ap (λ (y : Loop). y.count) w.says in
        let place : l.place ≡ at + 1 = ap (λ (y : Loop). y.place) w.says in
        let fits : at + 1 ≤ length s = w.fits in
        let most : length s ≤ 1024 = w.reads.small in
        loop-back l (rw count (b at)) (omega arith)
