-- `file::section_at` meets its promise: each way through the reading of a section is a law of `Parts`.
use borrow.Author.Rules.{rules}
use mathlib.Core.Path.{◌≡◌, sym, ap, ◌∙◌}
use mathlib.Core.List.{List}
use Prim.Native.Nat.{ℕ, ◌+◌, ◌-◌, ◌≤◌}
use native.Mathlib.Omega.{arith}
use lib.ListN.{length}
use Rattle.std.specs.Prelude.{Result, Ok, Err}
use Rattle.refusal.specs.declared.Refusal.{Refusal}
use Rattle.refusal.proofs.Numbers.{handed_on}
use Rattle.base.specs.Bytes.{part}
use Rattle.section.specs.Section.{read_of}
use Rattle.section.specs.declared.Header.{Header}
use Rattle.file_number.specs.Number.{number_at}
use Rattle.file_number.specs.declared.Number.{Number}
use Rattle.file.specs.Scan.{reading_of, section_at}
use Rattle.file.proofs.Parts.{no_number, short, long, past, read_as}
use Rattle.file_number.proofs.Bounds.{within}
use Rattle.file.proofs.section_at.Goals as goal

-- the section's reading, of as many bytes as its length says
heard : (file : List ℕ) (at : ℕ) (found : Number) (width : ℕ) (r : Result Header Refusal) → number_at file at ≡ Ok found → 8 ≤ found.value
    → found.value ≤ 1024 → width ≡ found.value → width ≤ length file - found.next
    → r ≡ read_of (part file found.next ((found.next + width) - found.next))
    → reading_of found.next found.value r ≡ section_at file at
heard file at found width r e s l w p q =
    sym (read_as file at found e s l ((found.next + width) - found.next) (omega (arith, w)) (rw (← w) p) ∙ ap (reading_of found.next found.value) (sym q))

pub returns-in_err-found : goal.returns-in_err-found
returns-in_err-found c = handed_on c.from_residual.result c.from_residual.ensures.1 ∙ no_number _ _ _ (sym (search rules))

pub returns-then-length-lt-SHORTEST : goal.returns-then-length-lt-SHORTEST
returns-then-length-lt-SHORTEST c = short _ _ c.in_ok-found.found (sym (search rules)) c.if-length-lt-SHORTEST.true

pub returns-then-length-gt-LONGEST : goal.returns-then-length-gt-LONGEST
returns-then-length-gt-LONGEST c = long _ _ c.in_ok-found.found (sym (search rules)) c.if-length-lt-SHORTEST.false c.if-length-gt-LONGEST.true

pub overflow_sub-file : goal.overflow_sub-file
overflow_sub-file c = (within c.args.file.now c.args.at c.in_ok-found.found.value c.in_ok-found.found.next (sym (search rules))).2

pub returns-then-file-start : goal.returns-then-file-start
returns-then-file-start c =
    past _ _ c.in_ok-found.found (sym (search rules)) c.if-length-lt-SHORTEST.false c.if-length-gt-LONGEST.false (rw (← c.from-size.ensures) c.if-file-start.true)

pub returns-in_err-header : goal.returns-in_err-header
returns-in_err-header c =
    handed_on c.from_residual-in_err-header.result c.from_residual-in_err-header.ensures.1
    ∙ heard c.args.file.now c.args.at c.in_ok-found.found _ (Err c.in_err-header.field-0.0) (sym (search rules)) c.if-length-lt-SHORTEST.false c.if-length-gt-LONGEST.false c.from-size.ensures c.if-file-start.false (search rules)

pub returns : goal.returns
returns c =
    heard c.args.file.now c.args.at c.in_ok-found.found _ (Ok c.in_ok-header.header) (sym (search rules)) c.if-length-lt-SHORTEST.false c.if-length-gt-LONGEST.false c.from-size.ensures c.if-file-start.false (search rules)
