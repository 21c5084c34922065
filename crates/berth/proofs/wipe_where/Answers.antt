-- `berth::wipe_where` meets its promise: after each turn the berths passed are wiped where they were picked.
use mathlib.Core.Path.{◌∙◌}
use borrow.Author.Rules.{rules}
use borrow.Author.Tests.{eq-eqb, ne_eqb}
use Rattle.berth.proofs.Steps.{so_far-none, so_far-one, so_far-skipped, so_far-all, wiped-each}
use Rattle.berth.proofs.wipe_where.Goals as goal
use Rattle.berth.proofs.wipe_where.Goals.{then-mask-n-eq1, else-mask-n-eq1}

pub returns-then-mask-eq-EACH : goal.returns-then-mask-eq-EACH
returns-then-mask-eq-EACH c = c.wipe_all.ensures ∙ wiped-each _ _ _ c.if-mask-eq-EACH.true

pub loop-n-init : goal.loop-n-init
loop-n-init c = so_far-none _ _ _

pub loop-n-preserved : goal.loop-n-preserved
loop-n-preserved c = elim c.if-mask-n-eq1.branch [
  | then-mask-n-eq1 w ↦ w.store-is ∙ w.wipe.ensures ∙ so_far-one _ _ _ _ _ (search rules) (eq-eqb _ _ w.if-mask-n-eq1.true) c.loop-n.invariant
  | else-mask-n-eq1 w ↦ w.store-is ∙ so_far-skipped _ _ _ _ _ (ne_eqb _ _ w.if-mask-n-eq1.false) c.loop-n.invariant
]

pub returns : goal.returns
returns c = so_far-all _ _ _ _ _ (search rules) c.loop-n.invariant
