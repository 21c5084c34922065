-- `berth::put` meets its promise: the section is copied to the front of the berth, and the part after it comes back as zeros.
use mathlib.Core.Path.{sym, ◌∙◌}
use native.Mathlib.Omega.{arith}
use borrow.Author.Rules.{rules}
use Rattle.base.specs.Bytes.{zeros}
use Rattle.berth.proofs.Steps.{began, nowhere, put_back, put-done, put-long, put-nowhere}
use Rattle.berth.proofs.put.Goals as goal

pub returns-then-section-gt-BERTH : goal.returns-then-section-gt-BERTH
returns-then-section-gt-BERTH c = sym (put-long _ _ _ _ c.if-section-gt-BERTH.true)

pub overflow_add-rest : goal.overflow_add-rest
overflow_add-rest c = let b = began c.in-Some.ensures in omega (arith, b.whole, b.room, c.if-section-gt-BERTH.false)

pub slice_bounds-copy_from_slice-end : goal.slice_bounds-copy_from_slice-end
slice_bounds-copy_from_slice-end c = let b = began c.in-Some.ensures in omega (arith, b.room, c.if-section-gt-BERTH.false)

pub overflow_add-from : goal.overflow_add-from
overflow_add-from c = let b = began c.in-Some.ensures in omega (arith, b.whole, b.room)

pub slice_bounds-fill-end : goal.slice_bounds-fill-end
slice_bounds-fill-end c = let b = began c.in-Some.ensures in omega (arith, b.room)

pub returns-in-Some : goal.returns-in-Some
unfolding zeros
returns-in-Some c = let b = began c.in-Some.ensures in
    put_back _ _ _ b.room _ c.if-section-gt-BERTH.false _ _ c.copy_from_slice.ensures.after (c.fill.ensures.after (λ _ e. e))
    ∙ put-done _ _ _ _ b _ c.if-section-gt-BERTH.false

pub returns-in_default : goal.returns-in_default
returns-in_default c = sym (put-nowhere _ _ _ _ (nowhere _ _ _ (search rules)))
