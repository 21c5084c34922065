-- How the lines of a listing follow each other.
--   not-added, are-added                             the rest of a key, of an NRT-IT alone
--   no-section, a-section, no-missing, a-missing     the line of one number, where it has one
--   no_line, one_more, all_lines                     the lines of the numbers from 0 on
use mathlib.Core.Path.{◌≡◌}
use mathlib.Core.List.{List, ◌++◌}
use Prim.Native.Nat.{ℕ, ◌+◌, ◌*◌, ◌≤◌}
use native.Mathlib.Numerals.{add-one}
use native.Mathlib.Nat.{mul-suc}
use native.Mathlib.Omega.{arith}
use lib.ListN.{get_or}
use borrow.Author.Tests.{eq-eqb, ne_eqb}
use Rattle.key.specs.Key.{nrt_it}
use Rattle.key.specs.declared.Key.{Key}
use Rattle.file_listing.specs.Words.{ascii, long_decimal, field, lines}
use Rattle.file_listing.specs.Growing.{Grew}
use Rattle.file_listing.specs.Listing.{added_words, section_line, missing_line, section_of, missing_of}
use Rattle.file_listing.specs.declared.Text.{Text}
use Rattle.file_listing.proofs.Growing.{nothing, then}

module _ (key : Key) (t : Text) where
  pub not-added : ¬ (key.table ≡ nrt_it) → Grew (added_words key) 31 t t
  unfolding added_words
  not-added d = rw (ne_eqb key.table nrt_it d) (nothing t 31)

  pub are-added : (r : Text) → key.table ≡ nrt_it → Grew (field " service " key.service ++ (ascii " start " ++ long_decimal key.start)) 31 t r
      → Grew (added_words key) 31 t r
  unfolding added_words
  are-added r e g = rw (eq-eqb key.table nrt_it e) g

-- the code looks at the place of a number that it has made wider
module _ (lengths : List ℕ) (n : ℕ) (t : Text) where
  pub no-section : {m : ℕ} → m ≡ n → get_or lengths m 0 ≡ 0 → Grew (section_of lengths n) 26 t t
  unfolding section_of
  no-section q e = rw (eq-eqb (get_or lengths n 0) 0 (rw q at e)) (nothing t 26)

  pub a-section : (r : Text) {m : ℕ} → m ≡ n → (get_or lengths m 0 ≡ 0 → ⊥) → Grew (section_line n (get_or lengths m 0)) 26 t r
      → Grew (section_of lengths n) 26 t r
  unfolding section_of
  a-section r q d g = rw (ne_eqb (get_or lengths n 0) 0 (rw q at d)) (rw q at g)

  pub no-missing : {m : ℕ} → m ≡ n → (get_or lengths m 0 ≡ 0 → ⊥) → Grew (missing_of lengths n) 14 t t
  unfolding missing_of
  no-missing q d = rw (ne_eqb (get_or lengths n 0) 0 (rw q at d)) (nothing t 14)

  pub a-missing : (r : Text) {m : ℕ} → m ≡ n → get_or lengths m 0 ≡ 0 → Grew (missing_line n) 14 t r → Grew (missing_of lengths n) 14 t r
  unfolding missing_of
  a-missing r q z g = rw (eq-eqb (get_or lengths n 0) 0 (rw q at z)) g

module _ (f : ℕ → List ℕ) (k : ℕ) (t : Text) where
  pub no_line : Grew (lines 0 f) (k * 0) t t
  unfolding lines
  no_line = nothing t (k * 0)

  pub one_more : (n : ℕ) {u r : Text} → Grew (lines n f) (k * n) t u → Grew (f n) k u r → Grew (lines (n + 1) f) (k * (n + 1)) t r
  unfolding lines
  one_more n {u} {r} v w = rw (add-one, mul-suc) (then v w)

  pub all_lines : (n end most : ℕ) {r : Text} → n ≡ end → k * n ≤ most → Grew (lines n f) (k * n) t r → Grew (lines end f) most t r
  all_lines n end most {r} e l g =
      record { shows = rw (← e) g.shows; within = (let w : r.size ≤ t.size + k * n = g.within in omega arith) }
