-- `shelf_load::store_each` meets its promise: after each turn the sections passed are stored. Each lies in the file.
use mathlib.Core.Path.{◌≡◌, ap, ◌∙◌}
use Prim.Native.Nat.{◌+◌, ◌<◌, ◌≤◌}
use native.Mathlib.Omega.{arith}
use lib.ListN.{length}
use borrow.Author.Rules.{rules}
use Rattle.berth.specs.Berth.{sections}
use Rattle.shelf_load.proofs.Laws.{lies, last-low, stored-none, stored_one, stored-skipped, all-stored}
use Rattle.shelf_load.proofs.store_each.Goals as goal
use Rattle.shelf_load.proofs.store_each.Goals.{then-size-ne0, else-size-ne0}

pub loop-n-init : goal.loop-n-init
loop-n-init c = (search rules, search rules, stored-none _ _ _ _ _ _ c.requires.within (search rules) (search rules))

pub bounds-table-n : goal.bounds-table-n
bounds-table-n c = omega (arith, c.loop-n-test.true, c.from-n-end.ensures, last-low _ _ _ _ c.requires.within)

pub overflow_add-end : goal.overflow_add-end
overflow_add-end c =
    let l = (lies _ _ _ _ c.requires.within c.loop-n.n _ c.from-size.ensures c.if-size-ne0.true).inside in
    omega arith

pub slice_bounds-put-end : goal.slice_bounds-put-end
slice_bounds-put-end c =
    let l = (lies _ _ _ _ c.requires.within c.loop-n.n _ c.from-size.ensures c.if-size-ne0.true).inside in
    omega arith

pub loop-n-preserved : goal.loop-n-preserved
loop-n-preserved c =
    let at = c.loop-n in
    let pre = c.requires in
    let low : at.n < sections = omega (arith, c.loop-n-test.true, c.from-n-end.ensures, last-low _ _ _ _ pre.within) in
    let next : at.n + 1 ≤ c.args.table.header.last + 1 = omega (arith, c.loop-n-test.true, c.from-n-end.ensures) in
    elim c.if-size-ne0.branch [
      | then-size-ne0 w ↦ (
        next,
        ap length w.store-is ∙ w.put.auto.store ∙ at.invariant.1,
        w.store-is
            ∙ w.put.ensures
            ∙ stored_one _ _ _ _ _ _ pre.within pre.store_len.0 pre.store_len.1 at.store at.n _ c.from-size.ensures at.invariant.2 low w.if-size-ne0.true,
      )
      | else-size-ne0 w ↦ (
        next,
        ap length w.store-is ∙ at.invariant.1,
        w.store-is
            ∙ stored-skipped _ _ _ _ _ _ pre.within pre.store_len.0 pre.store_len.1 at.store at.n _ c.from-size.ensures at.invariant.2 w.if-size-ne0.false,
      )
    ]

pub returns : goal.returns
returns c =
    let at = c.loop-n in
    let pre = c.requires in
    let end : at.n ≡ c.args.table.header.last + 1 = omega (arith, c.loop-n-test.false, c.from-n-end.ensures, at.invariant.0) in
    all-stored _ _ _ _ _ _ pre.within pre.store_len.0 pre.store_len.1 at.store at.n end at.invariant.2
