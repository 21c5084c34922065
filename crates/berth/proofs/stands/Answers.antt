-- `berth::stands` meets its promise.
use mathlib.Core.Path.{sym, ◌∙◌}
use native.Mathlib.Omega.{arith}
use Rattle.berth.proofs.Steps.{began, nowhere, stands-done, stands-long, stands-nowhere}
use Rattle.berth.proofs.stands.Goals as goal

pub returns-then-count-gt-BERTH : goal.returns-then-count-gt-BERTH
returns-then-count-gt-BERTH c = sym (stands-long _ _ _ _ _ c.if-count-gt-BERTH.true)

pub overflow_add-from : goal.overflow_add-from
overflow_add-from c = let b = began c.in-Some.ensures in omega (arith, b.whole, b.room, c.if-count-gt-BERTH.false)

pub slice_bounds-equal-end : goal.slice_bounds-equal-end
slice_bounds-equal-end c = let b = began c.in-Some.ensures in omega (arith, b.room, c.if-count-gt-BERTH.false)

pub returns-in-Some : goal.returns-in-Some
returns-in-Some c = c.equal.ensures ∙ stands-done _ _ _ _ (began c.in-Some.ensures) _ c.if-count-gt-BERTH.false _

pub returns-in-None : goal.returns-in-None
returns-in-None c = sym (stands-nowhere _ _ _ _ _ (nowhere _ _ _ c.in-None.ensures))
