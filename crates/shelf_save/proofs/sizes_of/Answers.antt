-- `shelf_save::sizes_of` meets its promise: after each turn the sections passed are counted and added up.
use mathlib.Core.Path.{◌∙◌}
use native.Mathlib.Omega.{arith}
use borrow.Author.Rules.{rules}
use Rattle.shelf_save.proofs.Adding.{none-sized, none-counted, one-sized, one-counted, skip-sized, skip-counted, some_size, some-count}
use Rattle.shelf_save.proofs.sizes_of.Goals as goal
use Rattle.shelf_save.proofs.sizes_of.Goals.{then-size-ne0, else-size-ne0}

pub loop-n-init : goal.loop-n-init
loop-n-init c = (search rules, search rules, search rules, search rules, none-counted _, none-sized _)

pub loop-n-preserved : goal.loop-n-preserved
loop-n-preserved c =
    let at = c.loop-n in
    elim c.if-size-ne0.branch [
      | then-size-ne0 w ↦ (
        search rules,
        at.invariant.1,
        omega (arith, w.count-is, at.invariant.2),
        omega (arith, w.bytes-is, w.number_size.ensures.1, w.from.ensures, c.loop-n-test.element_fits.fits, at.invariant.3),
        w.count-is ∙ one-counted _ _ at.invariant.4 (some-count _ w.if-size-ne0.true),
        w.bytes-is ∙ one-sized _ _ at.invariant.5 (rw (w.number_size.ensures.0, w.from.ensures) (some_size _ w.if-size-ne0.true)),
      )
      | else-size-ne0 w ↦ (
        search rules,
        at.invariant.1,
        omega (arith, w.count-is, at.invariant.2),
        omega (arith, w.bytes-is, at.invariant.3),
        w.count-is ∙ skip-counted _ _ at.invariant.4 w.if-size-ne0.false,
        w.bytes-is ∙ skip-sized _ _ at.invariant.5 w.if-size-ne0.false,
      )
    ]
