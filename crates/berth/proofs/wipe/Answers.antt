-- `berth::wipe` meets its promise.
use mathlib.Core.Path.{sym, ◌∙◌}
use native.Mathlib.Omega.{arith}
use borrow.Author.Rules.{rules}
use Rattle.berth.proofs.Steps.{began, nowhere, wiped-back, wiped-done, wiped-nowhere}
use Rattle.base.specs.Bytes.{zeros}
use Rattle.berth.proofs.wipe.Goals as goal

pub overflow_add-from : goal.overflow_add-from
overflow_add-from c = let b = began c.in-Some.ensures in omega (arith, b.whole, b.room)

pub slice_bounds-fill-end : goal.slice_bounds-fill-end
slice_bounds-fill-end c = (began c.in-Some.ensures).room

pub returns-in-Some : goal.returns-in-Some
unfolding zeros
returns-in-Some c = let b = began c.in-Some.ensures in
    wiped-back _ _ _ b.room _ (c.fill.ensures.after (λ _ e. e)) ∙ wiped-done _ _ _ _ b

pub returns-in_default : goal.returns-in_default
returns-in_default c = sym (wiped-nowhere _ _ _ (nowhere _ _ _ (search rules)))
