-- The whole text.
--   is_whole, not-whole               the last line
--   a-list, no-list                   the text of a table
--   refused-text, table-text          of a file
--   lies                              the sections of a file that was read lie in it
--   counted, too_small, fits          the two passes over the output
use mathlib.Core.Path.{◌≡◌, sym, ap, ◌∙◌}
use mathlib.Core.Bool.{Bool, true, false}
use mathlib.Core.List.{List, [], ◌++◌}
use mathlib.Core.Logic.{⊎_elim}
use Prim.Native.Nat.{ℕ, ◌+◌, ◌<◌, ◌≤◌, ◌^◌}
use native.Mathlib.Omega.{arith}
use lib.ListN.{length}
use borrow.Author.Tests.{eq-eqb, ne_eqb, lt-ltb, le-ltb}
use Rattle.base.specs.Below.{every}
use Rattle.section.specs.declared.Header.{Header}
use Rattle.file.specs.Scan.{scan_of}
use Rattle.file.specs.declared.Table.{Table}
use Rattle.std.specs.Prelude.{Ok, Err}
use Rattle.refusal.specs.declared.Refusal.{Refusal}
use Rattle.refusal.specs.declared.Refusal.TheVariants.{OutputTooSmall}
use Rattle.refusal.specs.Refusal.{number}
use Rattle.refusal.proofs.Numbers.{in_byte}
use Rattle.file.proofs.Held.{held}
use Rattle.file_listing.specs.Words.{lines, newline}
use Rattle.file_listing.specs.Listing.{head_line, missing_of, refused_line}
use Rattle.text.specs.Words.{field}
use Rattle.text.specs.Over.{Wrote}
use Rattle.text.proofs.Writing.{then, behind-front, at_front, over_nothing}
use Rattle.text.proofs.Short.{same-decimal}
use Rattle.programme_lines.specs.Lines.{other_line, whole_line, not_whole_line}
use Rattle.programme_listing.specs.Inside.{AllInside}
use Rattle.programme_listing.specs.Listing.{section_of, whole_at, end_line, list_text, table_text, text_of, listing, list_of}
use Rattle.programme_listing.proofs.Short.{text_short}

module _ {out after : List ℕ} {at end : ℕ} where
  pub is_whole : (b : Bool) → b ≡ true → Wrote whole_line out at after end → Wrote (end_line b) out at after end
  is_whole b e w = rw e w

  pub not-whole : (b : Bool) → b ≡ false → Wrote not_whole_line out at after end → Wrote (end_line b) out at after end
  not-whole b e w = rw e w

module _ (file starts lengths : List ℕ) {out after : List ℕ} {at end : ℕ} where
  pub the-list : (last : ℕ) {mid then-missing : List ℕ} {between behind : ℕ} (whole : Bool)
      → Wrote (lines (last + 1) (section_of file starts lengths)) out at mid between → whole ≡ every (last + 1) (whole_at file starts lengths)
      → Wrote (lines (last + 1) (missing_of lengths)) mid between then-missing behind → Wrote (end_line whole) then-missing behind after end
      → Wrote (list_text file starts lengths last) out at after end
  unfolding list_text
  the-list last whole v e w x = then v (then w (rw e at x))

  module _ (h : Header) {mid : List ℕ} {between : ℕ} (v : Wrote (head_line h) out at mid between) where
    pub a-list : h.key.table ≡ 223 → Wrote (list_text file starts lengths h.last) mid between after end → Wrote (table_text file starts lengths h) out at after end
    unfolding table_text
    a-list e w = rw (eq-eqb h.key.table 223 e) (then v w)

    pub no-list : (h.key.table ≡ 223 → ⊥) → Wrote other_line mid between after end → Wrote (table_text file starts lengths h) out at after end
    unfolding table_text
    no-list d w = rw (ne_eqb h.key.table 223 d) (then v w)

module _ (file : List ℕ) {out after : List ℕ} {end : ℕ} where
  pub refused-text : (refusal : Refusal) → Err refusal ≡ scan_of file → {n : ℕ} → n ≡ number refusal → Wrote (field "refused " n ++ newline) out 0 after end
      → Wrote (text_of file) out 0 after end
  unfolding text_of refused_line
  refused-text refusal e {n = n} q w =
      let l : number refusal < 256 = (in_byte refusal).1 in
      let v = rw q at w in
      rw (← e, ← same-decimal (number refusal) (omega arith)) v

  pub table-text : (table : Table) → Ok table ≡ scan_of file → Wrote (table_text file table.starts table.lengths table.header) out 0 after end
      → Wrote (text_of file) out 0 after end
  unfolding text_of
  table-text table e w = rw (← e) w

-- a section that is held lies in the file; one that lacks has no bytes, and its place is 0
pub lies : (file : List ℕ) (table : Table) → Ok table ≡ scan_of file → AllInside file table
lies file table e =
    let g = held file table (sym e) in
    record {
      few = g.last;
      each = λ n l d. ⊎_elim (λ z. absurd (d z)) (λ w. w.inside) (g.each n);
    }

-- the two passes
module _ (file out : List ℕ) (size : ℕ) where
  small : length (text_of file) < 2 ^ 64
  small = omega (arith, text_short file)

  -- written over nothing, the text is counted, and nothing is left
  pub counted : {left : List ℕ} → Wrote (text_of file) [] 0 left size → (size ≡ length (text_of file)) × (left ≡ [])
  counted w = (w.place ∙ behind-front (text_of file) small, w.leaves ∙ over_nothing (text_of file) 0)

  module _ {left : List ℕ} (counts : Wrote (text_of file) [] 0 left size) where
    pub too_small : length (left ++ out) < size → listing (Err OutputTooSmall) (left ++ out) ≡ list_of file out
    unfolding list_of
    too_small l =
        let none : left ≡ [] = (counted counts).1 in
        let short : length out < size = rw none at l in
        rw (none, ← (counted counts).0, lt-ltb (length out) size short)

    pub fits : {after : List ℕ} {end : ℕ} → size ≤ length (left ++ out) → Wrote (text_of file) (left ++ out) 0 after end
        → listing (Ok size) after ≡ list_of file out
    unfolding list_of
    fits l w =
        let none : left ≡ [] = (counted counts).1 in
        let is : size ≡ length (text_of file) = (counted counts).0 in
        let room : size ≤ length out = rw none at l in
        let stands = rw none at w.leaves in
        rw (← is, le-ltb (length out) size room)
        (ap (listing (Ok size)) (stands ∙ at_front (text_of file) out small (omega arith) ∙ rw (← is)))
