-- What is read in the numbers of a table that is held.
--   place_read, read_count        the place, and that there are 96 numbers
--   last-read, last-low           its last number
--   gap-read                      its lowest missing number
--   length-read, length-past, lengths_read      the length of a section, and all sixteen
use mathlib.Core.Path.{◌≡◌, sym, ap, ◌∙◌}
use mathlib.Core.Bool.{true, false, not}
use mathlib.Core.List.{List}
use Prim.Native.Nat.{ℕ, ◌+◌, ◌*◌, ◌%◌, ◌<◌, ◌≤◌}
use native.Mathlib.Omega.{arith}
use lib.Dec.{ltb}
use lib.ListN.{length, get_or, get_or-eq_default}
use borrow.Author.Tests.{eq-eqb, le-ltb, lt-ltb, ltb-true, ltb-false}
use Rattle.base.specs.Bits.{bit}
use Rattle.base.specs.Below.{lowest}
use Rattle.base.proofs.Cases.{by}
use Rattle.shelf.specs.Record.{place_at, length_at, holds, spoiled_of, place_of}
use Rattle.key.specs.declared.Key.{Key}
use Rattle.shelf.specs.Layout.{length_in, lengths_in, taken_in, table_in, shelf_at}
use Rattle.shelf.specs.Calls.{place_among, last_among, mask_among, length_among, lengths_among}
use Rattle.shelf.proofs.Lists.{length-listed, listed_same}
use Rattle.shelf.proofs.Numbers.{at_count, spoiled-count, taken_at, table_at, held_at, length-at, among-place, among-last, among-mask, among-length}
use Rattle.shelf.proofs.Equal.{lowest-alike}
use Rattle.shelf_ask.specs.Ask.{holding_of, complete, lowest_missing}
use Rattle.shelf_ask.specs.Calls.{found_below, gap_among}
use Rattle.shelf_ask.proofs.Gaps.{gap_here}
use Rattle.std.specs.Prelude.{if◌then◌else◌, Option, Some, None, Ok}
use Rattle.shelf_ask.proofs.Held.{In, held}

-- the place of a key in a record that is not spoiled
pub place_read : {p : ℕ} (words : List ℕ) (key : Key) → spoiled_of (shelf_at words) ≡ false → p ≡ place_among words key → p ≡ place_of (shelf_at words) key
place_read words key s e =
    let n = spoiled-count words s in
    e ∙ among-place words key n ∙ ap (λ x. place_of x key) (sym (at_count words n))

module _ (words : List ℕ) (size : ℕ) (key : Key) (p : ℕ) (e : holding_of (shelf_at words) size key ≡ Ok p) where
  is : In (shelf_at words) size key p
  is = held (shelf_at words) size key p e

  pub read_count : length words ≡ 96
  read_count = spoiled-count words is.sound

  pub read_taken : taken_in words p ≡ true
  read_taken = sym (taken_at words p is.place) ∙ ap (λ s. (place_at s p).taken) (sym (at_count words read_count)) ∙ is.taken

  pub read_table : place_at (shelf_at words) p ≡ table_in words p
  read_table = rw (at_count words read_count) (table_at words p is.place read_taken)

  pub last-read : {l : ℕ} → l ≡ last_among words p → l ≡ (place_at (shelf_at words) p).last
  unfolding table_in
  last-read q =
      let t : (place_at (shelf_at words) p).last ≡ get_or words (67 + 4 * p) 0 = ap (λ x. x.last) read_table in
      q ∙ among-last words p read_count is.place ∙ sym t

  pub last-low : {l : ℕ} → l ≡ last_among words p → l < 16
  last-low {l} q = rw (last-read q) is.last

  lowest-read :
      {mask l : ℕ}
      → mask ≡ mask_among words p
      → l ≡ last_among words p
      → lowest (l + 1) (λ n. not (bit mask n)) ≡ lowest_missing (place_at (shelf_at words) p)
  unfolding lowest_missing
  lowest-read {mask} {l} m q =
      let low : l < 16 = last-low q in
      lowest-alike (λ n. not (bit mask n)) (λ n. not (holds (place_at (shelf_at words) p) n)) (l + 1)
      (λ n k.
      ap not
      (ap (λ x. bit x n) (m ∙ among-mask words p read_count is.place)
      ∙ sym (held_at words p n (omega arith))
      ∙ ap (λ x. holds x n) (sym read_table)))
      ∙ ap (λ x. lowest (x + 1) (λ n. not (holds (place_at (shelf_at words) p) n))) (last-read q)

  -- the first gap that was found is its lowest missing number
  pub gap-read :
      {mask l : ℕ}
      {g : Option ℕ}
      → mask ≡ mask_among words p
      → l ≡ last_among words p
      → g ≡ gap_among mask l
      → g ≡ (if complete (place_at (shelf_at words) p) then None else Some (lowest_missing (place_at (shelf_at words) p)))
  unfolding gap_among
  gap-read {mask} {l} m q h =
      h
      ∙ ap (found_below (l + 1)) (lowest-read m q)
      ∙ ap (λ x. found_below (x + 1) (lowest_missing (place_at (shelf_at words) p))) (last-read q)
      ∙ gap_here (place_at (shelf_at words) p)

  sixteen : length (place_at (shelf_at words) p).lengths ≡ 16
  unfolding table_in lengths_in
  sixteen = ap (λ x. length x.lengths) read_table ∙ length-listed 16 (length_in words p)

  pub length-past : {c : ℕ} (n : ℕ) → c ≡ length_among words p n → 16 ≤ n → c ≡ 0
  unfolding length_among
  length-past n q h = q ∙ rw (eq-eqb (length words) 96 read_count, lt-ltb p 4 is.place, le-ltb n 16 h)

  pub length-read : {c : ℕ} (n : ℕ) → c ≡ length_among words p n → c ≡ length_at (place_at (shelf_at words) p) n
  length-read n q =
      by (ltb n 16)
      (λ t.
      q
      ∙ among-length words p read_count is.place n (ltb-true _ _ t)
      ∙ sym (length-at words p n is.place (ltb-true _ _ t) read_taken)
      ∙ ap (λ s. length_at (place_at s p) n) (sym (at_count words read_count)))
      (λ f.
      let h : 16 ≤ n = ltb-false _ _ f in
      length-past n q h ∙ sym (get_or-eq_default (place_at (shelf_at words) p).lengths 0 {n = n} (omega (arith, sixteen))))

-- a bit that is not 0
pub odd : (m : ℕ) → (m % 2 ≡ 0 → ⊥) → m % 2 ≡ 1
odd m d = omega (arith, d)

pub zero_one : {n : ℕ} → n ≡ 0 → n ≡ 1 → ⊥
zero_one e q = omega arith

-- the sixteen lengths of a table that is held
pub lengths_read :
    (words : List ℕ)
    (size : ℕ)
    (key : Key)
    (p : ℕ)
    (e : holding_of (shelf_at words) size key ≡ Ok p)
    {l : List ℕ}
    → l ≡ lengths_among words p
    → l ≡ (place_at (shelf_at words) p).lengths
unfolding table_in lengths_in
lengths_read words size key p e q =
    let n = read_count words size key p e in
    let i = held (shelf_at words) size key p e in
    q
    ∙ listed_same 16 (length_among words p) (length_in words p) (λ k h. among-length words p n i.place k h)
    ∙ ap (λ x. x.lengths) (sym (read_table words size key p e))
