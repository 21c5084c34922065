-- `shelf_load::hold_each` meets its promise: after each turn those of the sections passed that have a length are held.
use borrow.Author.Rules.{rules}
use mathlib.Core.Path.{refl, ap, ◌∙◌}
use lib.ListN.{length}
use Rattle.shelf_load.proofs.Holding.{held_none, held_one, held-skipped}
use Rattle.shelf_load.proofs.hold_each.Goals as goal
use Rattle.shelf_load.proofs.hold_each.Goals.{then-size-ne0, else-size-ne0}

pub loop-n-init : goal.loop-n-init
loop-n-init c = (search rules, search rules, search rules, held_none _ _ _)

pub loop-n-preserved : goal.loop-n-preserved
loop-n-preserved c =
    let at = c.loop-n in
    elim c.if-size-ne0.branch [
      | then-size-ne0 w ↦ (
        search rules,
        ap length w.words-is ∙ w.put_held.auto.words ∙ at.invariant.1,
        at.invariant.2,
        w.words-is ∙ w.put_held.ensures ∙ held_one _ _ _ at.words at.n at.invariant.3 at.invariant.1 (search rules) (search rules) refl w.if-size-ne0.true,
      )
      | else-size-ne0 w ↦ (
        search rules,
        ap length w.words-is ∙ at.invariant.1,
        at.invariant.2,
        w.words-is ∙ held-skipped _ _ _ at.words at.n at.invariant.3 refl w.if-size-ne0.false,
      )
    ]
