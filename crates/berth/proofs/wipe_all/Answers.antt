-- `berth::wipe_all` meets its promise: a place's berths lie side by side, so they are zeroed as one part.
use mathlib.Core.Path.{sym, ◌∙◌}
use native.Mathlib.Omega.{arith}
use borrow.Author.Rules.{rules}
use Rattle.base.specs.Bytes.{zeros}
use Rattle.berth.proofs.Steps.{began, nowhere, placeless, wiped-back, wiped-whole, wiped-nothing}
use Rattle.berth.proofs.wipe_all.Goals as goal

pub overflow_add-from : goal.overflow_add-from
overflow_add-from c = let b = began c.in-Some.ensures in omega (arith, b.whole, b.room)

pub slice_bounds-fill-end : goal.slice_bounds-fill-end
slice_bounds-fill-end c = let b = began c.in-Some.ensures in omega (arith, b.whole, b.place, b.at)

pub returns-in-Some : goal.returns-in-Some
unfolding zeros
returns-in-Some c = let b = began c.in-Some.ensures in
    wiped-back _ _ _ (omega (arith, b.whole, b.place, b.at)) _ (c.fill.ensures.after (λ _ e. e)) ∙ wiped-whole _ _ _ b

pub returns-in_default : goal.returns-in_default
returns-in_default c = sym (wiped-nothing _ _ _ (placeless _ _ (nowhere _ _ _ (search rules))))
