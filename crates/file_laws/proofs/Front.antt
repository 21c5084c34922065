-- An input that is longer than the lister's buffer: what fills the buffer is refused as the whole input is.
--   number-front     a number is read from three bytes at most
--   scan-front       the scan of the first 16,419 bytes of a longer file is the scan of the file
use mathlib.Core.Path.{◌≡◌, refl, sym, ap, subst, ◌∙◌}
use mathlib.Core.Bool.{true, false, ◌||◌}
use mathlib.Core.List.{List, [], ◌∷◌}
use mathlib.Core.Logic.{⊎_elim}
use Prim.Native.Nat.{ℕ, zero, suc, ◌+◌, ◌-◌, ◌*◌, ◌%◌, ◌<◌, ◌≤◌}
use native.Mathlib.Omega.{arith}
use lib.Dec.{ltb, eqb}
use lib.ListN.{length, take, drop}
use lib.Seq.{take-take, take-nil, length-take-le}
use borrow.Author.Tests.{lt-ltb, le-ltb, ltb-true, ltb-false, eqb-true}
use Rattle.base.specs.Bytes.{part}
use Rattle.base.proofs.Cases.{by, same_or, or_right}
use Rattle.std.specs.Prelude.{Result, Ok, Err}
use Rattle.refusal.specs.declared.Refusal.{Refusal}
use Rattle.refusal.specs.declared.Refusal.TheVariants.{BadNumber, BadFile}
use Rattle.section.specs.Section.{read_of}
use Rattle.section.specs.declared.Header.{Header}
use Rattle.file_number.specs.Number.{numeral, groups, cut_off, number_in, number_at}
use Rattle.file_number.specs.declared.Number.{Number}
use Rattle.file_number.proofs.Reading.{one_in, zero_in, two_in, zero-in-3, three-in, above_in}
use Rattle.file.specs.Layout.{form, fewest, most_counted, shortest, longest, largest_file, same_table}
use Rattle.file.specs.Scan.{lying, Seen, nothing, first_of, added, reading_of, length_of, section_at, sections_of, follow_of, count_of, form_of, scan_of}
use Rattle.file.specs.declared.Part.{Part}

-- a number and the place after it: below 128 it takes one byte, and below 128 × 128 two at most
abbrev Near : ℕ → ℕ → ℕ → Type 0
Near at n next = (n < 128 → next ≤ at + 1) × (n < 16384 → next ≤ at + 2)

-- what a reading of s says, s' says too
record Alike (s s' : List ℕ) (at : ℕ) : Type 0 where
  same : number_in s at ≡ number_in s' at
  near : (n next : ℕ) → number_in s at ≡ Ok (numeral n next) → Near at n next

value : {n m next after : ℕ} → ◌≡◌ {A = Result Number Refusal} (Ok (numeral n next)) (Ok (numeral m after)) → (n ≡ m) × (next ≡ after)
value {n = n} {m = m} {next = next} {after = after} e = let q : numeral n next ≡ numeral m after = cc in (ap (λ w. w.value) q, ap (λ w. w.next) q)

no_value : {A : Type 0} {n next : ℕ} {r : Refusal} → ◌≡◌ {A = Result Number Refusal} (Err r) (Ok (numeral n next)) → A
no_value e = cc

refused-alike : (s s' : List ℕ) (at : ℕ) → number_in s at ≡ Err BadNumber → number_in s' at ≡ Err BadNumber → Alike s s' at
refused-alike s s' at e f = record { same = e ∙ sym f; near = λ n next q. no_value (sym e ∙ q) }

module _ (at : ℕ) where
  cut-1 : number_in [] at ≡ Err BadNumber
  unfolding number_in cut_off
  cut-1 = refl

  cut-2 : (a : ℕ) → 128 ≤ a → number_in (a ∷ []) at ≡ Err BadNumber
  unfolding number_in cut_off groups
  cut-2 a high = rw (le-ltb a 128 high)

  value-alike : (s s' : List ℕ) (v after : ℕ) → number_in s at ≡ Ok (numeral v after) → number_in s' at ≡ Ok (numeral v after)
      → Near at v after → Alike s s' at
  value-alike s s' v after e f near =
      record {
        same = e ∙ sym f;
        near = λ n next q. let w : (n ≡ v) × (next ≡ after) = value (sym q ∙ e) in rw (w.0, w.1) near;
      }

  front-3 : (a b : ℕ) → 128 ≤ a → 128 ≤ b → (s s' : List ℕ) (c : ℕ) → Alike (a ∷ b ∷ c ∷ s) (a ∷ b ∷ c ∷ s') at
  front-3 a b high more s s' c =
      ⊎_elim
      (λ z. refused-alike _ _ at (rw z (zero-in-3 at a high b more s)) (rw z (zero-in-3 at a high b more s')))
      (λ z.
      by (ltb 3 c)
      (λ t. refused-alike _ _ at (above_in at a high b more c s (ltb-true 3 c t)) (above_in at a high b more c s' (ltb-true 3 c t)))
      (λ t.
      value-alike _ _ (a % 128 + b % 128 * 128 + c * 16384) (at + 3) (three-in at a high b more c s z (ltb-false 3 c t))
      (three-in at a high b more c s' z (ltb-false 3 c t)) (λ l. absurd (omega arith), λ l. absurd (omega arith))))
      (same_or c 0)

  cut-3 : (a b : ℕ) → 128 ≤ a → 128 ≤ b → number_in (a ∷ b ∷ []) at ≡ Err BadNumber
  unfolding number_in cut_off groups
  cut-3 a b high more = rw (le-ltb a 128 high, le-ltb b 128 more)

  front-2 : (a : ℕ) → 128 ≤ a → (k b : ℕ) (s : List ℕ) → Alike (a ∷ b ∷ s) (a ∷ b ∷ take (suc k) s) at
  front-2 a high k b s =
      ⊎_elim
      (λ z. refused-alike _ _ at (rw z (zero_in at a high s)) (rw z (zero_in at a high (take (suc k) s))))
      (λ z.
      by (ltb b 128)
      (λ t.
      value-alike _ _ (a % 128 + b * 128) (at + 2) (two_in at a high b s z (ltb-true b 128 t)) (two_in at a high b (take (suc k) s) z (ltb-true b 128 t))
      (λ l. absurd (omega arith), λ l. omega arith))
      (λ t. third b (ltb-false b 128 t) s))
      (same_or b 0)
    where
      third : (b : ℕ) → 128 ≤ b → (s : List ℕ) → Alike (a ∷ b ∷ s) (a ∷ b ∷ take (suc k) s) at
      third b more [] = refused-alike _ _ at (cut-3 a b high more) (cut-3 a b high more)
      third b more (c ∷ s) = front-3 a b high more s (take k s) c

  front-1 : (k a : ℕ) (s : List ℕ) → Alike (a ∷ s) (a ∷ take (suc (suc k)) s) at
  front-1 k a s =
      by (ltb a 128)
      (λ t. value-alike _ _ a (at + 1) (one_in at a s (ltb-true a 128 t)) (one_in at a (take (suc (suc k)) s) (ltb-true a 128 t)) (λ l. omega arith, λ l. omega arith))
      (λ t. second (ltb-false a 128 t) s)
    where
      second : 128 ≤ a → (s : List ℕ) → Alike (a ∷ s) (a ∷ take (suc (suc k)) s) at
      second high [] = refused-alike _ _ at (cut-2 a high) (cut-2 a high)
      second high (b ∷ s) = front-2 a high k b s

  number-front : (k : ℕ) (s : List ℕ) → Alike s (take (suc (suc (suc k))) s) at
  number-front k [] = refused-alike _ _ at cut-1 cut-1
  number-front k (a ∷ s) = front-1 k a s

drop-take : (n at : ℕ) (l : List ℕ) → at ≤ n → drop at (take n l) ≡ take (n - at) (drop at l)
drop-take n zero l h = ap (λ k. take k l) (let e : n ≡ n - 0 = omega arith in e)
drop-take zero (suc at) l h = absurd (omega arith)
drop-take (suc n) (suc at) [] h = sym (take-nil (suc n - suc at))
drop-take (suc n) (suc at) (x ∷ l) h = drop-take n at l (omega arith) ∙ ap (λ k. take k (drop at l)) (let e : n - at ≡ suc n - suc at = omega arith in e)

apart-part : {A : Type 0} (r : Refusal) (h : Header) (start size : ℕ) → Err r ≡ Ok (lying h start size) → A
apart-part r h start size e = cc

places : (r : Result Header Refusal) (start size : ℕ) (h : Header) (s k : ℕ) → reading_of start size r ≡ Ok (lying h s k) → (start ≡ s) × (size ≡ k)
places (Ok g) start size h s k e =
    let q : lying g start size ≡ lying h s k = cc in (ap (λ (p : Part). p.start) q, ap (λ (p : Part). p.length) q)
places (Err r) start size h s k e = apart-part r h s k e

-- the lister's buffer, and what fills it of a longer input
abbrev buffer : ℕ
buffer = 16419

module _ (file : List ℕ) (long : largest_file < length file) where
  abbrev front : List ℕ
  front = take buffer file

  front_length : length front ≡ buffer
  front_length = length-take-le buffer file (omega arith)

  numbers : (at : ℕ) → at + 3 ≤ buffer → Alike (drop at file) (drop at front) at
  numbers at l =
      let e : suc (suc (suc (buffer - at - 3))) ≡ buffer - at = omega arith in
      let q : take (suc (suc (suc (buffer - at - 3)))) (drop at file) ≡ drop at front
      = ap (λ k. take k (drop at file)) e ∙ sym (drop-take buffer at file (omega arith)) in
      subst (λ s. Alike (drop at file) s at) q (number-front at (buffer - at - 3) (drop at file))

  parts : (start size : ℕ) → start + size ≤ buffer → part front start size ≡ part file start size
  parts start size l = ap (take size) (drop-take buffer start file (omega arith)) ∙ take-take size (buffer - start) (drop start file) (omega arith)

  -- a number's length of a section says the same of both, and the section ends near
  lengths : (at : ℕ) → at + 1026 ≤ largest_file → (m : Result Number Refusal) → ((n next : ℕ) → m ≡ Ok (numeral n next) → Near at n next)
      → (length_of front m ≡ length_of file m)
      × ((h : Header) (start size : ℕ) → length_of file m ≡ Ok (lying h start size) → start + size ≤ at + 1026)
  lengths at l (Err r) near = (refl, λ h start size e. apart-part r h start size e)
  lengths at l (Ok found) near =
      let size = found.value in
      let start = found.next in
      by (ltb size shortest || ltb longest size)
      (λ t. (rw t, λ h s k e. apart-part BadFile h s k (rw t at e)))
      (λ t.
      let few : size ≤ longest = ltb-false _ _ (or_right (ltb size shortest) _ t) in
      let close : start ≤ at + 2 = (near size start refl).1 (omega arith) in
      let inside : ltb (length file) (start + size) ≡ false = le-ltb (length file) (start + size) (omega arith) in
      let inside' : ltb (length front) (start + size) ≡ false = rw front_length (le-ltb buffer (start + size) (omega arith)) in (
        rw (t, inside, inside', parts start size (omega arith)),
        λ h s k e.
            let w : (start ≡ s) × (size ≡ k) = places (read_of (part file start size)) start size h s k (rw (t, inside) at e) in
            omega arith,
      ))

  sections : (n : ℕ) (seen : Seen) → seen.next + 1026 * n ≤ largest_file → sections_of n front seen ≡ sections_of n file seen
  unfolding sections_of section_at
  sections zero seen l =
      let over : ltb seen.next (length file) ≡ true = lt-ltb seen.next (length file) (omega arith) in
      let over' : ltb seen.next (length front) ≡ true = rw front_length (lt-ltb seen.next buffer (omega arith)) in
      rw (over, over')
  sections (suc n) seen l =
      let a = numbers seen.next (omega arith) in
      let w = lengths seen.next (omega arith) (number_at file seen.next) a.near in
      ap (λ m. follow_of (sections_of n front) seen (length_of front m)) (sym a.same)
      ∙ ap (follow_of (sections_of n front) seen) w.0
      ∙ follows n seen (length_of file (number_at file seen.next)) w.1 l (sections n)
    where
      follows : (n : ℕ) (seen : Seen) (p : Result Part Refusal) → ((h : Header) (start size : ℕ) → p ≡ Ok (lying h start size) → start + size ≤ seen.next + 1026)
          → seen.next + 1026 * suc n ≤ largest_file
          → ((seen : Seen) → seen.next + 1026 * n ≤ largest_file → sections_of n front seen ≡ sections_of n file seen)
          → follow_of (sections_of n front) seen p ≡ follow_of (sections_of n file) seen p
      follows n seen (Err k) ends l more = refl
      follows n seen (Ok p) ends l more =
          let end : p.start + p.length ≤ seen.next + 1026 = ends p.header p.start p.length refl in
          by (same_table (first_of seen p.header) p.header)
          (λ s.
          by (ltb p.header.number seen.lowest)
          (λ t. rw (s, t))
          (λ t. rw (s, t) (more (added seen p.header p.start p.length) (omega arith))))
          (λ s. rw s)

  counts : (at : ℕ) → at ≤ 1 → count_of front (number_at front at) ≡ count_of file (number_at file at)
  counts at l =
      let a = numbers at (omega arith) in
      ap (count_of front) (sym a.same) ∙ go (number_at file at) a.near
    where
      go : (m : Result Number Refusal) → ((n next : ℕ) → m ≡ Ok (numeral n next) → Near at n next) → count_of front m ≡ count_of file m
      go (Err n) near = refl
      go (Ok found) near =
          let count = found.value in
          let next = found.next in
          by (ltb count fewest || ltb most_counted count)
          (λ t. rw t)
          (λ t.
          let few : count ≤ most_counted = ltb-false _ _ (or_right (ltb count fewest) _ t) in
          let close : next ≤ at + 1 = (near count next refl).0 (omega arith) in
          rw t (sections count (nothing next) (omega arith)))

  pub scan-front : scan_of (take 16419 file) ≡ scan_of file
  unfolding scan_of
  scan-front =
      let a = numbers 0 (omega arith) in
      ap (form_of front) (sym a.same) ∙ go (number_at file 0) a.near
    where
      go : (m : Result Number Refusal) → ((n next : ℕ) → m ≡ Ok (numeral n next) → Near 0 n next) → form_of front m ≡ form_of file m
      go (Err n) near = refl
      go (Ok found) near =
          by (eqb found.value form)
          (λ t.
          let is : found.value ≡ form = eqb-true _ _ t in
          let close : found.next ≤ 0 + 1 = (near found.value found.next refl).0 (omega arith) in
          rw t (counts found.next (omega arith)))
          (λ t. rw t)
