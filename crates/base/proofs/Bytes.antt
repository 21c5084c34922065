-- Laws on bytes, 16-bit numbers and parts.
--   word_fits, word-high, word_low   a 16-bit number of bytes is below 65,536, and its two bytes are in it
--   length_part                      a part that fits has its length
--   byte-part, word-part             what is read inside a part is read in the whole, further on
--   part-part                        a part of a part is a part
--   part-add                         a part is its first bytes and the rest of it
--   part-whole, in_parts             the whole is a part, and is what is before a part, the part, and what is after it
--   octets-part                      parts of bytes are bytes
use mathlib.Core.Path.{◌≡◌, sym, ap, ◌∙◌}
use mathlib.Core.List.{List, [], ◌∷◌, ◌++◌}
use Prim.Native.Nat.{ℕ, zero, suc, ◌+◌, ◌-◌, ◌/◌, ◌%◌, ◌<◌, ◌≤◌}
use native.Mathlib.Nat.{add_assoc, zero-add, suc-add}
use native.Mathlib.Omega.{arith}
use lib.Dec.{ltb}
use lib.ListN.{length, take, drop, length-take, length-drop, take-append-drop, get_or-eq_default}
use lib.Seq.{get_or-take, get_or-drop, take-take, take-add, drop-drop, take-length, take-nil}
use borrow.Author.Tests.{ltb-true, ltb-false}
use Rattle.base.specs.Bytes.{byte, word, part}
use Rattle.base.specs.Octets.{Octets}
use Rattle.base.proofs.Cases.{by}

module _ (s : List ℕ) (b : Octets s) (at : ℕ) where
  pub word_fits : word s at < 65536
  word_fits = omega (arith, b at, b (at + 1))

  pub word-high : word s at / 256 ≡ byte s at
  word-high = omega (arith, b (at + 1))

  pub word_low : word s at % 256 ≡ byte s (at + 1)
  word_low = omega (arith, b (at + 1))

drop-take : (a n : ℕ) (l : List ℕ) → drop a (take (a + n) l) ≡ take n (drop a l)
drop-take zero n l = rw zero-add
drop-take (suc a) n [] = rw (take-nil (suc a + n)) (sym (take-nil n))
drop-take (suc a) n (x ∷ l) = rw suc-add (drop-take a n l)

module _ (s : List ℕ) (at n : ℕ) where
  pub length_part : at + n ≤ length s → length (part s at n) ≡ n
  length_part h = simp (length-take, length-drop) (omega arith)

  pub byte-part : (k : ℕ) → k < n → byte (part s at n) k ≡ byte s (at + k)
  byte-part k h = rw (get_or-take, get_or-drop)

  pub word-part : (k : ℕ) → k + 1 < n → word (part s at n) k ≡ word s (at + k)
  word-part k h = rw (byte-part k (omega arith), byte-part (k + 1) (omega arith), add_assoc)

  pub part-part : (a m : ℕ) → a + m ≤ n → part (part s at n) a m ≡ part s (at + a) m
  part-part a m h =
      let rest : n ≡ a + (n - a) = omega arith in
      let fits : m ≤ n - a = omega arith in
      ap (λ k. part (part s at k) a m) rest ∙ rw (drop-take, take-take, drop-drop)

  pub part-add : (m : ℕ) → part s at (n + m) ≡ part s at n ++ part s (at + n) m
  part-add m = rw (take-add, drop-drop)

  pub in_parts : s ≡ take at s ++ (part s at n ++ drop (at + n) s)
  in_parts = rw (← drop-drop n at s, take-append-drop, take-append-drop)

pub part-whole : (s : List ℕ) → part s 0 (length s) ≡ s
part-whole s = take-length s

pub octets-part : (s : List ℕ) (at n : ℕ) → Octets s → Octets (part s at n)
octets-part s at n b k =
    by (ltb k n)
    (λ t. rw (byte-part s at n k (ltb-true k n t)) (b (at + k)))
    (λ f.
    let past : length (part s at n) ≤ k = simp length-take (omega (arith, ltb-false k n f)) in
    rw (get_or-eq_default (part s at n) 0 past) (omega arith))
