-- How the text goes through the section numbers.
--   no-section, a-section, no-missing, a-missing     what is written for one number
--   no_line, one_more                                for the numbers from 0 on
use mathlib.Core.Path.{◌≡◌, refl}
use mathlib.Core.Bool.{Bool, false}
use mathlib.Core.List.{List, ◌++◌}
use Prim.Native.Nat.{ℕ, ◌+◌, ◌<◌}
use native.Mathlib.Numerals.{add-one}
use native.Mathlib.Omega.{arith}
use lib.ListN.{get_or, take, drop}
use borrow.Author.Tests.{eq-eqb, ne_eqb}
use Rattle.file_listing.specs.Words.{newline, lines}
use Rattle.file_listing.specs.Listing.{missing_of, missing_line}
use Rattle.text.specs.Words.{field}
use Rattle.text.specs.Over.{Wrote}
use Rattle.text.proofs.Writing.{nothing, then}
use Rattle.text.proofs.Short.{same-decimal}
use Rattle.programme_section.specs.Section.{section_text, section_read}
use Rattle.programme_listing.specs.Listing.{section_of, whole_at}

-- the code looks at the place of a number that it has made wider
module _ (file starts lengths : List ℕ) (n : ℕ) {out : List ℕ} {at : ℕ} {m : ℕ} (p : m ≡ n) where
  pub no-section : get_or lengths m 0 ≡ 0 → Wrote (section_of file starts lengths n) out at out at × (false ≡ whole_at file starts lengths n)
  unfolding section_of whole_at
  no-section e = rw (eq-eqb (get_or lengths n 0) 0 (rw p at e)) (nothing out at, refl)

  pub a-section : {after : List ℕ} {end : ℕ} {whole : Bool} (size : ℕ) → (get_or lengths m 0 ≡ 0 → ⊥) → size ≡ get_or lengths m 0
      → Wrote (section_text n (take size (drop (get_or starts m 0) file))) out at after end → whole ≡ section_read (take size (drop (get_or starts m 0) file))
      → Wrote (section_of file starts lengths n) out at after end × (whole ≡ whole_at file starts lengths n)
  unfolding section_of whole_at
  a-section size d q w e = rw (ne_eqb (get_or lengths n 0) 0 (rw p at d)) (rw (q, p) at w, rw (q, p) at e)

module _ (lengths : List ℕ) (n : ℕ) {out : List ℕ} {at : ℕ} {m : ℕ} (p : m ≡ n) where
  pub no-missing : (get_or lengths m 0 ≡ 0 → ⊥) → Wrote (missing_of lengths n) out at out at
  unfolding missing_of
  no-missing d = rw (ne_eqb (get_or lengths n 0) 0 (rw p at d)) (nothing out at)

  pub a-missing : {after : List ℕ} {end : ℕ} → get_or lengths m 0 ≡ 0 → n < 16 → Wrote (field "missing " n ++ newline) out at after end → Wrote (missing_of lengths n) out at after end
  unfolding missing_of missing_line
  a-missing z l w = rw (eq-eqb (get_or lengths n 0) 0 (rw p at z), ← same-decimal n (omega arith)) w

module _ (f : ℕ → List ℕ) (out : List ℕ) (at : ℕ) where
  pub no_line : Wrote (lines 0 f) out at out at
  unfolding lines
  no_line = nothing out at

  pub one_more : (n : ℕ) {mid after : List ℕ} {between end : ℕ} → Wrote (lines n f) out at mid between → Wrote (f n) mid between after end
      → Wrote (lines (n + 1) f) out at after end
  unfolding lines
  one_more n v w = rw add-one (then v w)
