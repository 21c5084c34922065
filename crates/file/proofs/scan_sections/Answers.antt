-- `file::scan_sections` meets its promise. The loop keeps that what is left answers as the whole does; where its ways out
-- meet, its end gives the answer.
use borrow.Author.Rules.{rules}
use mathlib.Core.Path.{◌≡◌, sym, ap, ◌∙◌}
use mathlib.Core.Bool.{Bool, true, false}
use mathlib.Core.List.{List}
use Prim.Native.Nat.{ℕ, ◌+◌, ◌<◌, ◌≤◌}
use native.Mathlib.Omega.{arith}
use lib.ListN.{length, length-set}
use Rattle.std.specs.Prelude.{Result, Ok, Err}
use Rattle.refusal.specs.declared.Refusal.{Refusal}
use Rattle.refusal.specs.declared.Refusal.TheVariants.{BadFile}
use Rattle.refusal.proofs.Numbers.{handed_on}
use Rattle.section.specs.declared.Header.{Header}
use Rattle.file.specs.Layout.{same_table}
use Rattle.file.specs.Scan.{Seen, nothing, table_of, first_of, section_at, sections_of}
use Rattle.file.specs.declared.Part.{Part}
use Rattle.file.specs.declared.Table.{Table}
use Rattle.file.proofs.Found.{found, sound-number}
use Rattle.file.proofs.Sections.{seen_as, ended, past, within, none, faulty, other, fallen, next}
use Rattle.file.proofs.scan_sections.Goals as goal
use Rattle.file.proofs.scan_sections.Goals.{then-left-eq0, else-left-eq0+in-Err, else-left-eq0+in-Ok+then-not-same_table, else-left-eq0+in-Ok+else-not-same_table+then-header-lowest}

-- the number of a section that was read is below 16, and it lies in the file
low : (p : Part) (file : List ℕ) (at : ℕ) → Ok p ≡ section_at file at → p.header.number < 16
low p file at e =
    let f = found p.header p.start p.length file at (sym e) in
    let n = sound-number _ _ f.sound in
    omega arith

inside : (p : Part) (file : List ℕ) (at : ℕ) → Ok p ≡ section_at file at → p.start + p.length ≤ length file
inside p file at e = (found p.header p.start p.length file at (sym e)).inside

-- what the code's test says of two headers
told_same : (f g h : Header) (r b : Bool) → f ≡ g → r ≡ same_table f h → r ≡ b → same_table g h ≡ b
told_same f g h r b e q p = rw (← e, ← q) p

-- where the ways out of the loop meet, its end gives what the whole scan answers
module _ (file : List ℕ) (seen : Seen) (left : ℕ) (end : Result ℕ Refusal) (whole : Result Table Refusal) (inv : sections_of left file seen ≡ whole) where
  at_none : end ≡ Ok seen.next → left ≡ 0 → ended file seen end ≡ whole
  at_none q z = ap (ended file seen) q ∙ sym (none file seen left z) ∙ inv

  module _ (some : left ≡ 0 → ⊥) where
    at_faulty : (r : Refusal) → end ≡ Err r → section_at file seen.next ≡ Err r → ended file seen end ≡ whole
    at_faulty r q e = ap (ended file seen) q ∙ sym (faulty file seen left some r e) ∙ inv

    module _ (q : end ≡ Err BadFile) (p : Part) (e : section_at file seen.next ≡ Ok p) where
      at_other : same_table (first_of seen p.header) p.header ≡ false → ended file seen end ≡ whole
      at_other d = ap (ended file seen) q ∙ sym (other file seen left some p e d) ∙ inv

      at_fallen : same_table (first_of seen p.header) p.header ≡ true → p.header.number < seen.lowest → ended file seen end ≡ whole
      at_fallen s l = ap (ended file seen) q ∙ sym (fallen file seen left some p e s l) ∙ inv

pub bounds-starts-number : goal.bounds-starts-number
bounds-starts-number c = omega (arith, low c.in-Ok.part c.args.file.now c.loop-left.next (search rules))

pub bounds-lengths-number : goal.bounds-lengths-number
bounds-lengths-number c = omega (arith, low c.in-Ok.part c.args.file.now c.loop-left.next (search rules))

pub overflow_add-lowest : goal.overflow_add-lowest
overflow_add-lowest c = omega (arith, low c.in-Ok.part c.args.file.now c.loop-left.next (search rules))

pub overflow_add-next : goal.overflow_add-next
overflow_add-next c = omega (arith, c.from.ensures, inside c.in-Ok.part c.args.file.now c.loop-left.next (search rules))

pub loop-left-preserved : goal.loop-left-preserved
loop-left-preserved c =
    let seen = seen_as c.loop-left.first c.loop-left.lowest c.loop-left.next c.loop-left.starts c.loop-left.lengths in
    let p = c.in-Ok.part in
    let same = told_same _ _ _ _ true c.unwrap_or-shared.ensures c.same_table.ensures c.if-not-same_table.false in (
      rw c.from-number.ensures (length-set c.loop-left.starts p.header.number p.start ∙ c.loop-left.invariant.0),
      rw c.from-number.ensures (length-set c.loop-left.lengths p.header.number p.length ∙ c.loop-left.invariant.1),
      rw (c.from-number.ensures, c.from.ensures, c.unwrap_or-shared.ensures)
          (sym (next c.args.file.now seen c.loop-left.left c.if-left-eq0.false p (sym (search rules)) same c.if-header-lowest.false)
          ∙ c.loop-left.invariant.2),
    )

pub returns-in_err-at : goal.returns-in_err-at
returns-in_err-at c =
    let file = c.args.file.now in
    let seen = seen_as c.loop-left.first c.loop-left.lowest c.loop-left.next c.loop-left.starts c.loop-left.lengths in
    let whole = sections_of c.args.count file (nothing c.args.from) in
    let all : ended file seen c.if-left-eq0.end ≡ whole = elim c.if-left-eq0.branch [
      | then-left-eq0 w ↦ at_none file seen c.loop-left.left c.if-left-eq0.end whole c.loop-left.invariant.2 w.end-is w.if-left-eq0.true
      | else-left-eq0+in-Err w ↦ at_faulty file seen c.loop-left.left c.if-left-eq0.end whole c.loop-left.invariant.2 w.if-left-eq0.false w.in-Err.refusal w.end-is (sym w.section_at.ensures ∙ w.in-Err.is)
      | else-left-eq0+in-Ok+then-not-same_table w ↦ at_other file seen c.loop-left.left c.if-left-eq0.end whole c.loop-left.invariant.2 w.if-left-eq0.false w.end-is w.in-Ok.part (sym w.section_at.ensures ∙ w.in-Ok.is) (told_same _ _ _ _ false w.unwrap_or-shared.ensures w.same_table.ensures w.if-not-same_table.true)
      | else-left-eq0+in-Ok+else-not-same_table+then-header-lowest w ↦ at_fallen file seen c.loop-left.left c.if-left-eq0.end whole c.loop-left.invariant.2 w.if-left-eq0.false w.end-is w.in-Ok.part (sym w.section_at.ensures ∙ w.in-Ok.is) (told_same _ _ _ _ true w.unwrap_or-shared.ensures w.same_table.ensures w.if-not-same_table.false) w.if-header-lowest.true
    ] in
    let q : Err c.in_err-at.field-0.0 ≡ c.if-left-eq0.end = search rules in
    handed_on c.from_residual.result c.from_residual.ensures.1 ∙ (ap (ended file seen) q ∙ all)

pub returns-then-is_left_over : goal.returns-then-is_left_over
returns-then-is_left_over c =
    let file = c.args.file.now in
    let seen = seen_as c.loop-left.first c.loop-left.lowest c.loop-left.next c.loop-left.starts c.loop-left.lengths in
    let whole = sections_of c.args.count file (nothing c.args.from) in
    let all : ended file seen c.if-left-eq0.end ≡ whole = elim c.if-left-eq0.branch [
      | then-left-eq0 w ↦ at_none file seen c.loop-left.left c.if-left-eq0.end whole c.loop-left.invariant.2 w.end-is w.if-left-eq0.true
      | else-left-eq0+in-Err w ↦ at_faulty file seen c.loop-left.left c.if-left-eq0.end whole c.loop-left.invariant.2 w.if-left-eq0.false w.in-Err.refusal w.end-is (sym w.section_at.ensures ∙ w.in-Err.is)
      | else-left-eq0+in-Ok+then-not-same_table w ↦ at_other file seen c.loop-left.left c.if-left-eq0.end whole c.loop-left.invariant.2 w.if-left-eq0.false w.end-is w.in-Ok.part (sym w.section_at.ensures ∙ w.in-Ok.is) (told_same _ _ _ _ false w.unwrap_or-shared.ensures w.same_table.ensures w.if-not-same_table.true)
      | else-left-eq0+in-Ok+else-not-same_table+then-header-lowest w ↦ at_fallen file seen c.loop-left.left c.if-left-eq0.end whole c.loop-left.invariant.2 w.if-left-eq0.false w.end-is w.in-Ok.part (sym w.section_at.ensures ∙ w.in-Ok.is) (told_same _ _ _ _ true w.unwrap_or-shared.ensures w.same_table.ensures w.if-not-same_table.false) w.if-header-lowest.true
    ] in
    let q : Ok c.in_ok-at.at ≡ c.if-left-eq0.end = search rules in
    sym (past file seen _ (sym c.is_left_over.ensures ∙ c.if-is_left_over.true)) ∙ (ap (ended file seen) q ∙ all)

pub returns-in-Some : goal.returns-in-Some
returns-in-Some c =
    let file = c.args.file.now in
    let seen = seen_as c.loop-left.first c.loop-left.lowest c.loop-left.next c.loop-left.starts c.loop-left.lengths in
    let whole = sections_of c.args.count file (nothing c.args.from) in
    let all : ended file seen c.if-left-eq0.end ≡ whole = elim c.if-left-eq0.branch [
      | then-left-eq0 w ↦ at_none file seen c.loop-left.left c.if-left-eq0.end whole c.loop-left.invariant.2 w.end-is w.if-left-eq0.true
      | else-left-eq0+in-Err w ↦ at_faulty file seen c.loop-left.left c.if-left-eq0.end whole c.loop-left.invariant.2 w.if-left-eq0.false w.in-Err.refusal w.end-is (sym w.section_at.ensures ∙ w.in-Err.is)
      | else-left-eq0+in-Ok+then-not-same_table w ↦ at_other file seen c.loop-left.left c.if-left-eq0.end whole c.loop-left.invariant.2 w.if-left-eq0.false w.end-is w.in-Ok.part (sym w.section_at.ensures ∙ w.in-Ok.is) (told_same _ _ _ _ false w.unwrap_or-shared.ensures w.same_table.ensures w.if-not-same_table.true)
      | else-left-eq0+in-Ok+else-not-same_table+then-header-lowest w ↦ at_fallen file seen c.loop-left.left c.if-left-eq0.end whole c.loop-left.invariant.2 w.if-left-eq0.false w.end-is w.in-Ok.part (sym w.section_at.ensures ∙ w.in-Ok.is) (told_same _ _ _ _ true w.unwrap_or-shared.ensures w.same_table.ensures w.if-not-same_table.false) w.if-header-lowest.true
    ] in
    let q : Ok c.in_ok-at.at ≡ c.if-left-eq0.end = search rules in
    ap (table_of c.loop-left.starts c.loop-left.lengths) (sym c.in-Some.is) ∙ (sym (within file seen _ (sym c.is_left_over.ensures ∙ c.if-is_left_over.false)) ∙ (ap (ended file seen) q ∙ all))

pub returns-in-None : goal.returns-in-None
returns-in-None c =
    let file = c.args.file.now in
    let seen = seen_as c.loop-left.first c.loop-left.lowest c.loop-left.next c.loop-left.starts c.loop-left.lengths in
    let whole = sections_of c.args.count file (nothing c.args.from) in
    let all : ended file seen c.if-left-eq0.end ≡ whole = elim c.if-left-eq0.branch [
      | then-left-eq0 w ↦ at_none file seen c.loop-left.left c.if-left-eq0.end whole c.loop-left.invariant.2 w.end-is w.if-left-eq0.true
      | else-left-eq0+in-Err w ↦ at_faulty file seen c.loop-left.left c.if-left-eq0.end whole c.loop-left.invariant.2 w.if-left-eq0.false w.in-Err.refusal w.end-is (sym w.section_at.ensures ∙ w.in-Err.is)
      | else-left-eq0+in-Ok+then-not-same_table w ↦ at_other file seen c.loop-left.left c.if-left-eq0.end whole c.loop-left.invariant.2 w.if-left-eq0.false w.end-is w.in-Ok.part (sym w.section_at.ensures ∙ w.in-Ok.is) (told_same _ _ _ _ false w.unwrap_or-shared.ensures w.same_table.ensures w.if-not-same_table.true)
      | else-left-eq0+in-Ok+else-not-same_table+then-header-lowest w ↦ at_fallen file seen c.loop-left.left c.if-left-eq0.end whole c.loop-left.invariant.2 w.if-left-eq0.false w.end-is w.in-Ok.part (sym w.section_at.ensures ∙ w.in-Ok.is) (told_same _ _ _ _ true w.unwrap_or-shared.ensures w.same_table.ensures w.if-not-same_table.false) w.if-header-lowest.true
    ] in
    let q : Ok c.in_ok-at.at ≡ c.if-left-eq0.end = search rules in
    ap (table_of c.loop-left.starts c.loop-left.lengths) (sym c.in-None.is) ∙ (sym (within file seen _ (sym c.is_left_over.ensures ∙ c.if-is_left_over.false)) ∙ (ap (ended file seen) q ∙ all))
