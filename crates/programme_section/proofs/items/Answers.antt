-- `programme_section::items` meets its promise: the loop keeps what is left of the items.
use mathlib.Core.Path.{◌≡◌, sym}
use Prim.Native.Nat.{◌+◌, ◌-◌}
use native.Mathlib.Omega.{arith}
use borrow.Author.Rules.{rules}
use Rattle.programme_section.proofs.Facts.{name-fits}
use Rattle.programme_section.proofs.Walk.{goes_on, ends-refused, ends-over, ends-own}
use Rattle.programme_section.proofs.items.Goals as goal

pub overflow_add-to : goal.overflow_add-to
overflow_add-to c =
    let here = rw c.in-Ok-Some.field-0-is at c.in-Ok-Some.ensures in
    let f = name-fits _ _ _ _ (sym here) in search rules

pub slice_bounds-item_text-end : goal.slice_bounds-item_text-end
slice_bounds-item_text-end c =
    let here = rw c.in-Ok-Some.field-0-is at c.in-Ok-Some.ensures in
    let f = name-fits _ _ _ _ (sym here) in search rules

pub loop-k-preserved : goal.loop-k-preserved
loop-k-preserved c =
    let here = rw c.in-Ok-Some.field-0-is at c.in-Ok-Some.ensures in
    let i = c.in-Ok-Some.item in
    let size : i.nameat + i.named - i.nameat ≡ i.named = omega arith in
    goes_on c.loop-k.invariant (search rules) i (i.nameat + i.named - i.nameat) (sym here) size c.item_text-end.ensures (search rules)

pub returns-in-Err-clause-wrote : goal.returns-in-Err-clause-wrote
returns-in-Err-clause-wrote c = (ends-refused c.loop-k.invariant (search rules) _ (sym c.in-Err.ensures) (rw c.from.ensures at c.refused_at-told.ensures)).0

pub returns-in-Err-clause-whole_value : goal.returns-in-Err-clause-whole_value
returns-in-Err-clause-whole_value c = (ends-refused c.loop-k.invariant (search rules) _ (sym c.in-Err.ensures) (rw c.from.ensures at c.refused_at-told.ensures)).1

pub returns-in-Ok-None-clause-wrote : goal.returns-in-Ok-None-clause-wrote
returns-in-Ok-None-clause-wrote c =
    let here = rw c.in-Ok-None.field-0-is at c.in-Ok-None.ensures in (ends-over c.loop-k.invariant (search rules) (sym here)).0

pub returns-in-Ok-None-clause-whole_value : goal.returns-in-Ok-None-clause-whole_value
returns-in-Ok-None-clause-whole_value c =
    let here = rw c.in-Ok-None.field-0-is at c.in-Ok-None.ensures in (ends-over c.loop-k.invariant (search rules) (sym here)).1

pub returns-clause-wrote : goal.returns-clause-wrote
returns-clause-wrote c = (ends-own c.loop-k.invariant (search rules) c.own.ensures.wrote c.own.ensures.whole_value).0

pub returns-clause-whole_value : goal.returns-clause-whole_value
returns-clause-whole_value c = (ends-own c.loop-k.invariant (search rules) c.own.ensures.wrote c.own.ensures.whole_value).1
