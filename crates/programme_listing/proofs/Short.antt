-- How long a text is (`specs/Theorems.antt` has the words).
--   text_short, always_listed
--   listed-within     what is answered as the text's length lies within the output
use mathlib.Core.Path.{◌≡◌, refl, ap}
use mathlib.Core.Bool.{Bool, true, false}
use mathlib.Core.List.{List, ◌++◌}
use mathlib.Core.Logic.{⊎_elim}
use Prim.Native.Nat.{ℕ, zero, suc, ◌+◌, ◌*◌, ◌≤◌}
use native.Mathlib.Omega.{arith}
use lib.Dec.{ltb, eqb}
use lib.ListN.{length, get_or, drop, length-append}
use borrow.Author.Tests.{le-ltb, eqb-false}
use Rattle.base.specs.Below.{every}
use Rattle.base.proofs.Bytes.{length_part}
use Rattle.base.proofs.Cases.{by}
use Rattle.section.specs.declared.Header.{Header}
use Rattle.file.specs.Scan.{scan_of}
use Rattle.file.specs.declared.Table.{Table}
use Rattle.std.specs.Prelude.{Result, Ok, Err}
use Rattle.refusal.specs.declared.Refusal.{Refusal}
use Rattle.refusal.specs.declared.Refusal.TheVariants.{OutputTooSmall}
use Rattle.refusal.specs.Refusal.{number}
use Rattle.file.proofs.Held.{held}
use Rattle.file_listing.specs.Words.{lines}
use Rattle.file_listing.specs.Listing.{head_line, missing_line, missing_of, refused_line}
use Rattle.file_listing.proofs.Short.{decimal-5, added-short}
use Rattle.programme.specs.Table.{nrt_it}
use Rattle.programme_section.proofs.Short.{section-short}
use Rattle.programme_listing.specs.Listing.{payload_of, section_of, whole_at, end_line, list_text, table_text, answer_text, text_of, listing, list_of}
use Rattle.programme_listing.specs.Theorems.{TextShort, AlwaysListed}

head-short : (h : Header) → length (head_line h) ≤ 78
unfolding head_line
head-short h = simp length-append (omega (arith, decimal-5 h.key.table, decimal-5 h.key.extension, added-short h.key, decimal-5 h.version, decimal-5 h.last))

refused-short : (n : ℕ) → length (refused_line n) ≤ 14
unfolding refused_line
refused-short n = simp length-append (omega (arith, decimal-5 n))

missing-short : (n : ℕ) → length (missing_line n) ≤ 14
unfolding missing_line
missing-short n = simp length-append (omega (arith, decimal-5 n))

end_short : (b : Bool) → length (end_line b) ≤ 10
end_short true = omega arith
end_short false = omega arith

module _ (file : List ℕ) (table : Table) (e : scan_of file ≡ Ok table) where
  abbrev h : Header
  h = table.header

  abbrev starts : List ℕ
  starts = table.starts

  abbrev lengths : List ℕ
  lengths = table.lengths

  -- what is written for one number, whether it is held or lacks
  number_short : (n : ℕ) → length (section_of file starts lengths n) + length (missing_of lengths n) ≤ 20480
  unfolding section_of missing_of
  number_short n =
      by (eqb (get_or lengths n 0) 0)
      (λ t. rw t (omega (arith, missing-short n)))
      (λ f.
      rw f
      (⊎_elim
      (λ z. absurd (eqb-false _ _ f z))
      (λ w.
      let low : 8 ≤ get_or lengths n 0 = w.low in
      let high : get_or lengths n 0 ≤ 1024 = w.high in
      let long : length (payload_of file starts lengths n) ≡ get_or lengths n 0 = length_part file (get_or starts n 0) (get_or lengths n 0) w.inside in
      omega (arith, section-short n (payload_of file starts lengths n) (omega arith)))
      ((held file table e).each n)))

  numbers-short : (k : ℕ) → length (lines k (section_of file starts lengths)) + length (lines k (missing_of lengths)) ≤ 20480 * k
  unfolding lines
  numbers-short zero = omega arith
  numbers-short (suc k) = simp length-append (omega (arith, numbers-short k, number_short k))

  list-short : length (list_text file starts lengths h.last) ≤ 327690
  unfolding list_text
  list-short =
      let last : h.last ≤ 15 = (held file table e).last in
      simp length-append (omega (arith, numbers-short (h.last + 1), end_short (every (h.last + 1) (whole_at file starts lengths))))

  table-short : length (table_text file starts lengths h) ≤ 327768
  unfolding table_text
  table-short =
      by (eqb h.key.table nrt_it)
      (λ t. rw t (simp length-append (omega (arith, head-short h, list-short))))
      (λ f. rw f (simp length-append (omega (arith, head-short h))))

pub text_short : (file : List ℕ) → TextShort file
unfolding text_of
text_short file = go (scan_of file) refl
  where
    go : (a : Result Table Refusal) → scan_of file ≡ a → length (answer_text file a) ≤ 327768
    go (Err r) e = omega (arith, refused-short (number r))
    go (Ok table) e = table-short file table e

pub always_listed : (file old : List ℕ) → AlwaysListed file old
unfolding list_of
always_listed file old l = rw (le-ltb (length old) (length (text_of file)) (omega (arith, text_short file)))

pub listed-within : (file old : List ℕ) (n : ℕ) (after : List ℕ) → listing (Ok n) after ≡ list_of file old → (n ≤ length after) × (n ≤ 327768)
unfolding list_of
listed-within file old n after e =
    by (ltb (length old) (length (text_of file)))
    (λ t.
    let q : ◌≡◌ {A = Result ℕ Refusal} (Ok n) (Err OutputTooSmall) = ap (λ l. l.said) (rw t at e) in
    cc)
    (λ f.
    let q : ◌≡◌ {A = Result ℕ Refusal} (Ok n) (Ok (length (text_of file))) = ap (λ l. l.said) (rw f at e) in
    let z : n ≡ length (text_of file) = cc in
    let o : after ≡ text_of file ++ drop (length (text_of file)) old = ap (λ l. l.out) (rw f at e) in
    (omega (arith, simp length-append at (ap length o)), omega (arith, text_short file)))
