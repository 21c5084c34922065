-- `shelf_check::any_wrong` meets its promise: the search for a section that is wrong.
use native.Mathlib.Omega.{arith}
use mathlib.Core.Path.{sym, ◌∙◌}
use Rattle.base.proofs.Below.{some-none, some_more, some-found}
use Rattle.shelf_check.proofs.any_wrong.Goals as goal

pub loop-n-init : goal.loop-n-init
loop-n-init c = some-none _

pub returns-then-wrong_at : goal.returns-then-wrong_at
returns-then-wrong_at c = let k = c.loop-n in
    sym (some-found _ 16 k.n (omega arith) (sym c.wrong_at.ensures ∙ c.if-wrong_at.true))

pub loop-n-preserved : goal.loop-n-preserved
loop-n-preserved c = let k = c.loop-n in
    some_more _ k.n k.invariant (sym c.wrong_at.ensures ∙ c.if-wrong_at.false)
