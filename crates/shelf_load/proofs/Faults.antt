-- The numbers by which a file is refused: a section's own, 2 to 8 or 46, or 11 or 12.
--   scan-range     no other is given
use mathlib.Core.Path.{◌≡◌, refl, ap, subst, ◌∙◌}
use mathlib.Core.Bool.{◌||◌}
use mathlib.Core.List.{List}
use mathlib.Core.Logic.{◌⊎◌, inl, inr, ⊎_elim}
use Prim.Native.Nat.{ℕ, zero, suc, ◌+◌, ◌<◌, ◌≤◌}
use native.Mathlib.Omega.{arith}
use lib.Dec.{ltb, eqb}
use lib.ListN.{length, drop}
use borrow.Author.Tests.{ltb-false}
use Rattle.base.specs.Bytes.{part}
use Rattle.base.proofs.Bytes.{length_part}
use Rattle.base.proofs.Cases.{by, or_left}
use Rattle.base.proofs.Tables.{among}
use Rattle.section.specs.Section.{read_of}
use Rattle.section.specs.declared.Header.{Header}
use Rattle.std.specs.Prelude.{Option, Some, None, Result, Ok, Err}
use Rattle.refusal.specs.Refusal.{number, number_of}
use Rattle.refusal.specs.declared.Refusal.{Refusal}
use Rattle.section.proofs.ExactlyWhen.{refused_1, refused_range}
use Rattle.file_number.specs.Number as Number
use Rattle.file_number.specs.declared.Number.{Number as Read}
use Rattle.file.specs.Layout.{form, fewest, most_counted, shortest, longest, same_table}
use Rattle.file.specs.Scan.{Seen, nothing, table_of, first_of, added, reading_of, length_of, section_at, sections_of, follow_of, count_of, form_of, scan_of}
use Rattle.file.specs.declared.Table.{Table}

-- a number that a file may be refused by
abbrev pub FileFault : ℕ → Type 0
FileFault n = (((2 ≤ n) × (n ≤ 8)) ⊎ (n ≡ 46)) ⊎ ((n ≡ 11) ⊎ (n ≡ 12))

11-fault : FileFault 11
11-fault = inr (inl refl)

12-fault : FileFault 12
12-fault = inr (inr refl)

abbrev InFaults : {A : Type 0} → Result A Refusal → Type 0
InFaults (Ok a) = Unit {0}
InFaults (Err r) = FileFault (number r)

in-number : (s : List ℕ) (at : ℕ) → InFaults (Number.number_in s at)
unfolding Number.number_in
in-number s at = among Err InFaults (Number.faults s) _ (11-fault, tt) tt

-- a section of 8 bytes or more is not refused by 1
own : (s : List ℕ) (r : Refusal) → 8 ≤ length s → read_of s ≡ Err r → FileFault (number r)
own s r l e =
    let not-1 : number r ≡ 1 → ⊥ = λ q. let short : length s < 8 = (refused_1 s).0 (ap number_of e ∙ q) in omega arith in
    inl (⊎_elim (λ b. inl (omega (arith, b.0, not-1), b.1)) (λ q. inr q) (refused_range s r e))

in-follow : (go : Seen → Result Table Refusal) → ((seen : Seen) → InFaults (go seen)) → (file : List ℕ) (seen : Seen) (n : Result Read Refusal) → InFaults n
    → InFaults (follow_of go seen (length_of file n))
in-follow go low file seen (Err r) b = b
in-follow go low file seen (Ok at) b =
    let size = at.value in
    let start = at.next in
    by (ltb size shortest || ltb longest size)
    (λ t. rw t 12-fault)
    (λ t.
    by (ltb (length file) (start + size))
    (λ u. rw (t, u) 12-fault)
    (λ u.
    let inside : start + size ≤ length file = ltb-false _ _ u in
    let least : shortest ≤ size = ltb-false _ _ (or_left (ltb size shortest) _ t) in
    rw (t, u) (reading start size (rw (length_part file start size inside) least) (read_of (part file start size)) refl)))
  where
    reading : (start size : ℕ) → 8 ≤ length (part file start size) → (r : Result Header Refusal) → read_of (part file start size) ≡ r → InFaults (follow_of go seen (reading_of start size r))
    reading start size l (Err r) e = own (part file start size) r l e
    reading start size l (Ok h) e =
        by (same_table (first_of seen h) h)
        (λ s. by (ltb h.number seen.lowest) (λ f. rw (s, f) 12-fault) (λ f. rw (s, f) (low (added seen h start size))))
        (λ s. rw s 12-fault)

-- a table, where a section was read
in-table : (seen : Seen) (o : Option Header) → InFaults (table_of seen.starts seen.lengths o)
in-table seen (Some h) = tt
in-table seen None = 12-fault

in-sections : (left : ℕ) (file : List ℕ) (seen : Seen) → InFaults (sections_of left file seen)
unfolding sections_of section_at
in-sections zero file seen = by (ltb seen.next (length file)) (λ t. rw t 12-fault) (λ t. rw t (in-table seen seen.first))
in-sections (suc left) file seen =
    in-follow (sections_of left file) (in-sections left file) file seen (Number.number_at file seen.next) (in-number (drop seen.next file) seen.next)

in_count : (file : List ℕ) (n : Result Read Refusal) → InFaults n → InFaults (count_of file n)
in_count file (Err r) b = b
in_count file (Ok at) b =
    by (ltb at.value fewest || ltb most_counted at.value) (λ t. rw t 12-fault) (λ t. rw t (in-sections at.value file (nothing at.next)))

in-form : (file : List ℕ) (n : Result Read Refusal) → InFaults n → InFaults (form_of file n)
in-form file (Err r) b = b
in-form file (Ok at) b =
    by (eqb at.value form) (λ t. rw t (in_count file (Number.number_at file at.next) (in-number (drop at.next file) at.next))) (λ t. rw t 12-fault)

in-scan : (file : List ℕ) → InFaults (scan_of file)
unfolding scan_of
in-scan file = in-form file (Number.number_at file 0) (in-number (drop 0 file) 0)

pub scan-range : (file : List ℕ) (r : Refusal) → scan_of file ≡ Err r → FileFault (number r)
scan-range file r e = subst InFaults e (in-scan file)
