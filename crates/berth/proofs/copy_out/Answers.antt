-- `berth::copy_out` meets its promise.
use mathlib.Core.Path.{sym, ap, ◌∙◌}
use mathlib.Core.List.{◌++◌}
use native.Mathlib.Omega.{arith}
use lib.ListN.{drop}
use borrow.Author.Rules.{rules}
use Rattle.berth.proofs.Steps.{began, nowhere, copied-done, copied-long, copied-narrow, copied-nowhere}
use Rattle.berth.proofs.copy_out.Goals as goal

pub returns-then-count-gt-BERTH : goal.returns-then-count-gt-BERTH
returns-then-count-gt-BERTH c = sym (copied-long _ _ _ _ _ c.if-count-gt-BERTH.true)

pub returns-then-out-count : goal.returns-then-out-count
returns-then-out-count c = sym (copied-narrow _ _ _ _ _ c.if-out-count.true)

pub overflow_add-from : goal.overflow_add-from
overflow_add-from c = let b = began c.in-Some.ensures in omega (arith, b.whole, b.room, c.if-count-gt-BERTH.false)

pub slice_bounds-copy_from_slice-end-in-Some-2 : goal.slice_bounds-copy_from_slice-end-in-Some-2
slice_bounds-copy_from_slice-end-in-Some-2 c = let b = began c.in-Some.ensures in omega (arith, b.room, c.if-count-gt-BERTH.false)

pub returns-in-Some : goal.returns-in-Some
returns-in-Some c = ap (λ front. front ++ drop c.args.count c.args.out.now) c.copy_from_slice.ensures.after
    ∙ copied-done _ _ _ _ (began c.in-Some.ensures) _ c.if-count-gt-BERTH.false _ c.if-out-count.false

pub returns-in_default : goal.returns-in_default
returns-in_default c = sym (copied-nowhere _ _ _ _ _ (nowhere _ _ _ (search rules)))
