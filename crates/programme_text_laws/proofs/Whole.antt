-- What the last line says (`specs/Theorems.antt` has the words).
--   whole_exactly, not_whole_exactly
use mathlib.Core.Path.{◌≡◌, sym, ap, ◌∙◌}
use mathlib.Core.Bool.{Bool, true, false}
use mathlib.Core.List.{List, ◌∷◌, ◌++◌, append_assoc}
use Prim.Native.Nat.{ℕ, ◌+◌, ◌<◌}
use native.Mathlib.Omega.{arith}
use lib.ListN.{length, get_or, length-append}
use lib.Seq.{get_or-append_seam, get_or-append-add}
use borrow.Author.Tests.{eq-eqb}
use Rattle.base.specs.Below.{every}
use Rattle.base.proofs.Below.{every-all, every-each}
use Rattle.base.proofs.Cases.{by, and_left, and_right}
use Rattle.section.specs.declared.Header.{Header}
use Rattle.file.specs.declared.Table.{Table}
use Rattle.file.specs.Scan.{found_at}
use Rattle.file_listing.specs.Words.{lines, newline}
use Rattle.file_listing.specs.Listing.{head_line, missing_of}
use Rattle.programme_lines.specs.Lines.{whole_line, not_whole_line}
use Rattle.programme_section.specs.Section.{section_read}
use Rattle.programme_listing.specs.Listing.{end_line, payload_of, section_of, whole_at, list_text, table_text, text_of}
use Rattle.programme_text_laws.specs.Theorems.{LastLine, EachRead, ListFile, WholeExactly, NotWholeExactly}
use Rattle.programme_text_laws.proofs.Ended.{Line, before_last}
use Rattle.programme_text_laws.proofs.Read.{section-read}

-- no text has both for its last line: 7 bytes from the end stands a newline in the one, and a space in the other
apart : {t : List ℕ} → LastLine whole_line t → LastLine not_whole_line t → ⊥
apart {t} (u, e) (v, q) =
    let same : u ++ (10 ∷ whole_line) ≡ v ++ (10 ∷ not_whole_line) = sym e ∙ q in
    let sizes : length u + 7 ≡ length v + 11
    = sym (length-append u (10 ∷ whole_line)) ∙ ap length same ∙ length-append v (10 ∷ not_whole_line) in
    let far : length u ≡ length v + 4 = omega arith in
    let one : get_or (u ++ (10 ∷ whole_line)) (length u) 0 ≡ 10 = get_or-append_seam u 10 whole_line 0 in
    let other : get_or (v ++ (10 ∷ not_whole_line)) (length v + 4) 0 ≡ 32 = get_or-append-add v (10 ∷ not_whole_line) 4 0 in
    let z : ◌≡◌ {A = ℕ} 10 32 = sym one ∙ ap (λ l. get_or l (length u) 0) same ∙ ap (λ k. get_or (v ++ (10 ∷ not_whole_line)) k 0) far ∙ other in
    omega arith

-- a line behind a text that ends with a newline is its last
behind : (a b c line : List ℕ) → Line (a ++ (b ++ c)) → LastLine line (a ++ (b ++ (c ++ line)))
behind a b c line l = (
  l.before,
  ap (λ t. a ++ t) (sym (append_assoc b c line))
      ∙ sym (append_assoc a (b ++ c) line) ∙ ap (λ t. t ++ line) l.is ∙ append_assoc l.before newline line,
)

module _ (file : List ℕ) (table : Table) (list : ListFile file table) where
  abbrev h : Header
  h = table.header

  abbrev starts : List ℕ
  starts = table.starts

  abbrev lengths : List ℕ
  lengths = table.lengths

  abbrev whole : Bool
  whole = every (h.last + 1) (whole_at file starts lengths)

  last_line : LastLine (end_line whole) (text_of file)
  unfolding text_of table_text list_text
  last_line =
      rw (list.0, eq-eqb h.key.table 0xDF list.1)
      (behind (head_line h) (lines (h.last + 1) (section_of file starts lengths)) (lines (h.last + 1) (missing_of lengths)) (end_line whole)
      (before_last file starts lengths h (h.last + 1)))

  each : whole ≡ true → EachRead file table
  unfolding whole_at
  each t n l =
      let both = every-each (whole_at file starts lengths) (h.last + 1) n (omega arith) t in
      let read = and_right (found_at lengths n) (section_read (payload_of file starts lengths n)) both in
      (and_left (found_at lengths n) (section_read (payload_of file starts lengths n)) both, (section-read (payload_of file starts lengths n)).0 read)

  all : EachRead file table → whole ≡ true
  unfolding whole_at
  all e = every-all (whole_at file starts lengths) (h.last + 1) go
    where
      go : (n : ℕ) → n < h.last + 1 → whole_at file starts lengths n ≡ true
      go n l = let both = e n (omega arith) in rw both.0 ((section-read (payload_of file starts lengths n)).1 both.1)

  pub says-whole : whole ≡ true → LastLine whole_line (text_of file)
  says-whole t = rw t at last_line

  pub says-not : whole ≡ false → LastLine not_whole_line (text_of file)
  says-not f = rw f at last_line

pub whole_exactly : (file : List ℕ) (table : Table) → WholeExactly file table
whole_exactly file table list = (
  λ w. by (whole file table list) (each file table list) (λ f. absurd (apart w (says-not file table list f))),
  λ e. says-whole file table list (all file table list e),
)

pub not_whole_exactly : (file : List ℕ) (table : Table) → NotWholeExactly file table
not_whole_exactly file table list = (
  λ w e. apart (says-whole file table list (all file table list e)) w,
  λ d. by (whole file table list) (λ t. absurd (d (each file table list t))) (says-not file table list),
)
