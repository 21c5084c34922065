-- How long a listing is.
--   listed-within     what is answered as the text's length lies within the output
--   places-short, decimal-5, added-short     how long a number and the rest of a key are
--   text_short        no listing has more than 421 bytes (`specs/Answer.antt` has the words)
--   always_listed     so an output of that many is never too small
use mathlib.Core.Path.{◌≡◌, refl, ap}
use mathlib.Core.Bool.{true}
use mathlib.Core.List.{List, ◌++◌}
use mathlib.Core.Logic.{⊎_elim}
use Prim.Native.Nat.{ℕ, zero, suc, ◌+◌, ◌-◌, ◌*◌, ◌^◌, ◌<◌, ◌≤◌}
use native.Mathlib.Omega.{arith}
use lib.Dec.{ltb, leb, eqb}
use lib.ListN.{length, get_or, drop, length-append}
use borrow.Author.Tests.{le-ltb, lt-leb, ltb-true, ltb-false, eqb-true}
use Rattle.base.specs.Below.{every}
use Rattle.base.specs.Bytes.{part}
use Rattle.base.specs.Octets.{Octets}
use Rattle.base.proofs.Bytes.{octets-part}
use Rattle.base.proofs.Cases.{by, and_left, and_right}
use Rattle.key.specs.Key.{nrt_it, same_key}
use Rattle.key.specs.declared.Key.{Key}
use Rattle.key.proofs.Keys.{said-one}
use Rattle.section.specs.declared.Header.{Header}
use Rattle.section.proofs.Laws.{sound-facts, sound_fits}
use Rattle.file.specs.Layout.{same_table}
use Rattle.file.specs.Scan.{scan_of, found_at}
use Rattle.file.specs.declared.Table.{Table}
use Rattle.refusal.specs.Refusal.{number}
use Rattle.std.specs.Prelude.{Result, Ok, Err}
use Rattle.refusal.specs.declared.Refusal.{Refusal}
use Rattle.refusal.specs.declared.Refusal.TheVariants.{OutputTooSmall}
use Rattle.file.proofs.Held.{held}
use Rattle.file_listing.specs.Words.{place, places, decimal, long_decimal, lines}
use Rattle.file_listing.specs.Listing.{added_words, head_line, section_line, missing_line, refused_line, section_of, missing_of, end_of, table_text, answer_text, text_of, listing, list_of}
use Rattle.file_listing.specs.Answer.{TextShort, AlwaysListed}

pub listed-within : (file out : List ℕ) (n : ℕ) (after : List ℕ) → listing (Ok n) after ≡ list_of file out → n ≤ length after
unfolding list_of
listed-within file out n after e =
    by (ltb (length out) (length (text_of file)))
    (λ t.
    let q : ◌≡◌ {A = Result ℕ Refusal} (Ok n) (Err OutputTooSmall) = ap (λ l. l.said) (rw t at e) in
    cc)
    (λ f.
    let q : ◌≡◌ {A = Result ℕ Refusal} (Ok n) (Ok (length (text_of file))) = ap (λ l. l.said) (rw f at e) in
    let z : n ≡ length (text_of file) = cc in
    let o : after ≡ text_of file ++ drop (length (text_of file)) out = ap (λ l. l.out) (rw f at e) in
    omega (arith, simp length-append at (ap length o)))

-- a digit is written where the number reaches its power, and not below
place_short : (power n : ℕ) → length (place power n) ≤ 1
unfolding place
place_short power n = by (leb power n) (λ t. rw t (omega arith)) (λ f. rw f (omega arith))

pub places-short : (k n : ℕ) → length (places k n) ≤ k
unfolding places
places-short zero n = omega arith
places-short (suc k) n = simp length-append (omega (arith, place_short (10 ^ suc k) n, places-short k n))

place_none : (power n : ℕ) → n < power → length (place power n) ≡ 0
unfolding place
place_none power n h = rw (lt-leb power n h)

module _ (n : ℕ) where
  pub decimal-5 : length (decimal n) ≤ 5
  unfolding decimal places
  decimal-5 = simp length-append (omega (arith, place_short 10000 n, place_short 1000 n, place_short 100 n, place_short 10 n))

  decimal-4 : n < 10000 → length (decimal n) ≤ 4
  unfolding decimal places
  decimal-4 h =
      let a : length (place 10000 n) ≡ 0 = place_none 10000 n h in
      simp length-append (omega (arith, a, place_short 1000 n, place_short 100 n, place_short 10 n))

  decimal-3 : n < 1000 → length (decimal n) ≤ 3
  unfolding decimal places
  decimal-3 h =
      let a : length (place 10000 n) ≡ 0 = place_none 10000 n (omega arith) in
      let b : length (place 1000 n) ≡ 0 = place_none 1000 n h in
      simp length-append (omega (arith, a, b, place_short 100 n, place_short 10 n))

  decimal-2 : n < 100 → length (decimal n) ≤ 2
  unfolding decimal places
  decimal-2 h =
      let a : length (place 10000 n) ≡ 0 = place_none 10000 n (omega arith) in
      let b : length (place 1000 n) ≡ 0 = place_none 1000 n (omega arith) in
      let c : length (place 100 n) ≡ 0 = place_none 100 n h in
      simp length-append (omega (arith, a, b, c, place_short 10 n))

  decimal-1 : n < 10 → length (decimal n) ≤ 1
  unfolding decimal places
  decimal-1 h =
      let a : length (place 10000 n) ≡ 0 = place_none 10000 n (omega arith) in
      let b : length (place 1000 n) ≡ 0 = place_none 1000 n (omega arith) in
      let c : length (place 100 n) ≡ 0 = place_none 100 n (omega arith) in
      let d : length (place 10 n) ≡ 0 = place_none 10 n h in
      simp length-append (omega (arith, a, b, c, d))

-- of an NRT-IT five digits of the service_id and ten of the time
pub added-short : (key : Key) → length (added_words key) ≤ 31
unfolding added_words long_decimal
added-short key =
    by (eqb key.table nrt_it)
    (λ t. rw t (simp length-append (omega (arith, decimal-5 key.service, places-short 9 key.start))))
    (λ f. rw f (omega arith))

-- the first line: three digits of the table id, five of the extension, two of the version and of the last number
head-short : (h : Header) → h.key.table < 256 → h.version < 32 → h.last ≤ 15 → length (head_line h) ≤ 70
unfolding head_line
head-short h t v l =
    simp length-append
    (omega (arith, decimal-3 h.key.table (omega arith), decimal-5 h.key.extension, added-short h.key, decimal-2 h.version (omega arith), decimal-2 h.last (omega arith)))

-- the line of a number, whether it is held or lacks
module _ (lengths : List ℕ) (short : (n : ℕ) → get_or lengths n 0 ≤ 1024) where
  line-1 : (n : ℕ) → n < 10 → length (section_of lengths n) + length (missing_of lengths n) ≤ 21
  unfolding section_of missing_of section_line missing_line
  line-1 n h =
      let size : get_or lengths n 0 ≤ 1024 = short n in
      by (found_at lengths n)
      (λ t. rw t (simp length-append (omega (arith, decimal-1 n h, decimal-4 (get_or lengths n 0) (omega arith)))))
      (λ f. rw f (simp length-append (omega (arith, decimal-1 n h))))

  line-2 : (n : ℕ) → n < 100 → length (section_of lengths n) + length (missing_of lengths n) ≤ 22
  unfolding section_of missing_of section_line missing_line
  line-2 n h =
      let size : get_or lengths n 0 ≤ 1024 = short n in
      by (found_at lengths n)
      (λ t. rw t (simp length-append (omega (arith, decimal-2 n h, decimal-4 (get_or lengths n 0) (omega arith)))))
      (λ f. rw f (simp length-append (omega (arith, decimal-2 n h))))

  -- the lines of the first k numbers: a byte more for each from 10 on
  lines-short : (k : ℕ) → k ≤ 16 → length (lines k (section_of lengths)) + length (lines k (missing_of lengths)) ≤ 21 * k + (k - 10)
  unfolding lines
  lines-short zero h = omega arith
  lines-short (suc k) h =
      let ih : length (lines k (section_of lengths)) + length (lines k (missing_of lengths)) ≤ 21 * k + (k - 10) = lines-short k (omega arith) in
      simp length-append
      (by (ltb k 10)
      (λ t. let low : k < 10 = ltb-true _ _ t in let l : length (section_of lengths k) + length (missing_of lengths k) ≤ 21 = line-1 k low in omega arith)
      (λ f.
      let high : 10 ≤ k = ltb-false _ _ f in
      let l : length (section_of lengths k) + length (missing_of lengths k) ≤ 22 = line-2 k (omega arith) in
      omega arith))

  table-short : (h : Header) → h.key.table < 256 → h.version < 32 → h.last ≤ 15 → length (table_text h lengths) ≤ 421
  unfolding table_text end_of
  table-short h t v l =
      let head : length (head_line h) ≤ 70 = head-short h t v l in
      let both : length (lines (h.last + 1) (section_of lengths)) + length (lines (h.last + 1) (missing_of lengths)) ≤ 21 * (h.last + 1) + (h.last + 1 - 10)
      = lines-short (h.last + 1) (omega arith) in
      by (every (h.last + 1) (found_at lengths))
      (λ t. rw t (simp length-append (omega arith)))
      (λ f. rw f (simp length-append (omega arith)))

refused-short : (n : ℕ) → length (refused_line n) ≤ 14
unfolding refused_line
refused-short n = simp length-append (omega (arith, decimal-5 n))

-- two headers of one table have one table id and one version
same-label : (a c : Header) → same_table a c ≡ true → c.key.table < 256 → c.version < 32 → (a.key.table < 256) × (a.version < 32)
unfolding same_table
same-label a c s t v =
    let x : a.key.table ≡ c.key.table = (said-one a.key c.key (and_left (same_key a.key c.key) _ s)).0 in
    let q = and_right (same_key a.key c.key) _ s in
    let y : a.version ≡ c.version = eqb-true _ _ (and_left (eqb a.version c.version) _ q) in
    (omega arith, omega arith)

-- what the first section's header says fits its digits
module _ (file : List ℕ) (b : Octets file) (table : Table) (e : scan_of file ≡ Ok table) where
  sizes-short : (n : ℕ) → get_or table.lengths n 0 ≤ 1024
  sizes-short n = ⊎_elim (λ z. omega arith) (λ l. l.high) ((held file table e).each n)

  label-short : (table.header.key.table < 256) × (table.header.version < 32)
  label-short =
      let k : ℕ = (held file table e).some.0 in
      let some : 8 ≤ get_or table.lengths k 0 = (held file table e).some.1 in
      ⊎_elim
      (λ z. absurd (omega arith))
      (λ l.
      let s = part file (get_or table.starts k 0) (get_or table.lengths k 0) in
      let f = sound-facts s l.header l.sound in
      let w = sound_fits s l.header l.sound (octets-part file (get_or table.starts k 0) (get_or table.lengths k 0) b) in
      same-label table.header l.header l.shares w.table f.version)
      ((held file table e).each k)

pub text_short : (file : List ℕ) → TextShort file
unfolding text_of
text_short file b = go (scan_of file) refl
  where
    go : (a : Result Table Refusal) → scan_of file ≡ a → length (answer_text a) ≤ 421
    go (Err r) e = (let l : length (refused_line (number r)) ≤ 14 = refused-short (number r) in omega arith)
    go (Ok table) e =
        let w = label-short file b table e in
        table-short table.lengths (sizes-short file b table e) table.header w.0 w.1 (held file table e).last

pub always_listed : (file out : List ℕ) → AlwaysListed file out
unfolding list_of
always_listed file out b l =
    let s : length (text_of file) ≤ 421 = text_short file b in
    rw (le-ltb (length out) (length (text_of file)) (omega arith))
