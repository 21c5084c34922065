-- Numbers in bytes, written and read.
--   field-says, field-after     what is written is read, and what stands behind it
--   field-reads                 bytes are what their number is written as
--   number_fits                 which fits
use mathlib.Core.Path.{◌≡◌, refl, ap, ◌∙◌}
use mathlib.Core.List.{List, [], ◌∷◌, ◌++◌, append_assoc}
use Prim.Native.Nat.{ℕ, zero, suc, ◌+◌, ◌*◌, ◌/◌, ◌%◌, ◌<◌, ◌≤◌}
use native.Mathlib.Nat.{zero-add, add-suc}
use native.Mathlib.Omega.{arith}
use lib.ListN.{length, drop, length-append}
use lib.Seq.{drop-cons, get_or-append-add}
use Rattle.base.specs.Bytes.{byte}
use Rattle.base.specs.Octets.{Octets}
use Rattle.programme.specs.Field.{number}
use Rattle.programme_laws.specs.Layout.{digits, span}
use Rattle.programme_laws.proofs.From.{From, after, byte_of}

pub digits_long : (n v : ℕ) → length (digits n v) ≡ n
unfolding digits
digits_long zero v = refl
digits_long (suc n) v = let e : length (digits n (v / 256)) ≡ n = digits_long n (v / 256) in simp length-append (omega arith)

-- a number is that of the bytes from its place on
number-from : (n : ℕ) {s : List ℕ} {at : ℕ} {r : List ℕ} → From s at r → number s at n ≡ number r 0 n
unfolding number
number-from zero f = refl
number-from (suc n) {s} {at} {r} f = rw (number-from n f, byte_of f n, zero-add)

-- the byte behind n others
behind-them : (a : List ℕ) (n x : ℕ) (r : List ℕ) → length a ≡ n → byte (a ++ (x ∷ r)) n ≡ x
behind-them a n x r e = let z : n ≡ length a + 0 = omega arith in rw z (get_or-append-add a (x ∷ r) 0 0)

digits-say : (n v : ℕ) (r : List ℕ) → v < span n → number (digits n v ++ r) 0 n ≡ v
unfolding digits number
digits-say zero v r h = omega arith
digits-say (suc n) v r h =
    let high : number (digits n (v / 256) ++ (v % 256 ∷ r)) 0 n ≡ v / 256 = digits-say n (v / 256) (v % 256 ∷ r) (omega arith) in
    let low : byte (digits n (v / 256) ++ (v % 256 ∷ r)) n ≡ v % 256 = behind-them (digits n (v / 256)) n (v % 256) r (digits_long n (v / 256)) in
    let e : digits (suc n) v ++ r ≡ digits n (v / 256) ++ (v % 256 ∷ r) = append_assoc (digits n (v / 256)) (v % 256 ∷ []) r in
    let g : number (digits n (v / 256) ++ (v % 256 ∷ r)) 0 (suc n) ≡ v = rw (zero-add, high, low) (omega arith) in
    ap (λ l. number l 0 (suc n)) e ∙ g

module _ (n v : ℕ) {s : List ℕ} {at : ℕ} (r : List ℕ) (f : From s at (digits n v ++ r)) where
  pub field-says : v < span n → number s at n ≡ v
  field-says h = number-from n f ∙ digits-say n v r h

  pub field-after : From s (at + n) r
  field-after = let e : length (digits n v) ≡ n = digits_long n v in rw e at (after (digits n v) r f)

module _ (s : List ℕ) (b : Octets s) (at : ℕ) where
  pub number_fits : (n : ℕ) → number s at n < span n
  unfolding number
  number_fits zero = omega arith
  number_fits (suc n) = omega (arith, number_fits n, b (at + n))

  pub field-reads : (n : ℕ) → at + n ≤ length s → drop at s ≡ digits n (number s at n) ++ drop (at + n) s
  unfolding digits number
  field-reads zero h = let e : at + 0 ≡ at = omega arith in rw e
  field-reads (suc n) h =
      let here : drop (at + n) s ≡ byte s (at + n) ∷ drop (suc (at + n)) s = drop-cons s (at + n) 0 (omega arith) in
      let high : (number s at n * 256 + byte s (at + n)) / 256 ≡ number s at n = omega (arith, b (at + n)) in
      let low : (number s at n * 256 + byte s (at + n)) % 256 ≡ byte s (at + n) = omega (arith, b (at + n)) in
      field-reads n (omega arith)
      ∙ ap (λ l. digits n (number s at n) ++ l) here
      ∙ rw (high, low, append_assoc, add-suc)
