-- `programme_items::item_at` meets its promise: an item told in ten numbers comes back out of them.
use borrow.Author.Rules.{rules}
use mathlib.Core.Path.{◌≡◌, ap, ◌∙◌}
use native.Mathlib.Omega.{arith}
use Rattle.std.specs.Prelude.{Ok, Some, None}
use Rattle.refusal.proofs.Numbers.{handed_on}
use Rattle.base.specs.Octets.{Octets}
use Rattle.programme.specs.Reading.{read_of}
use Rattle.programme.specs.Count.{count_of}
use Rattle.programme.proofs.Readings.{listed}
use Rattle.programme.proofs.Items.{step-refused, step_over, step-item}
use Rattle.programme_items.specs.Parts.{left_by}
use Rattle.programme_items.proofs.Handed.{none_left, over-left, Remains, items_left, told_none, told-narrow, told_back}
use Rattle.programme_items.proofs.item_at.Goals as goal

pub returns-in_err-left : goal.returns-in_err-left
returns-in_err-left c = handed_on c.from_residual.result c.from_residual.ensures.1
    ∙ step-refused c.args.payload.now c.args.at c.args.number _ (none_left c.args.payload.now c.args.number _ (search rules))

pub returns-in_default : goal.returns-in_default
returns-in_default c =
    let here : Ok None ≡ left_by c.args.number (count_of (read_of c.args.payload.now)) = search rules in
    let o = over-left _ _ here in step_over _ _ _ o.0 o.1.0 o.1.1

pub tell_items-told-requires : goal.tell_items-told-requires
tell_items-told-requires c =
    let here : Ok (Some c.in-Some.field-0) ≡ left_by c.args.number (count_of (read_of c.args.payload.now)) = search rules in
    let some : Remains c.args.payload.now c.args.number c.in-Some.field-0 = items_left _ _ _ here in
    let l = listed _ _ some.reads in (omega (arith, l.small), omega arith)

pub item_of-requires : goal.item_of-requires
item_of-requires c = let octets : Octets c.args.payload.now = λ k. omega (arith, c.type_inv.payload k) in
    told-narrow _ _ _ 1 _ _ c.tell_items-told.ensures (omega arith) octets c.if-told-eq0.false

pub returns-then-told-eq0 : goal.returns-then-told-eq0
returns-then-told-eq0 c =
    let here : Ok (Some c.in-Some.field-0) ≡ left_by c.args.number (count_of (read_of c.args.payload.now)) = search rules in
    let some : Remains c.args.payload.now c.args.number c.in-Some.field-0 = items_left _ _ _ here in
    (told_none _ _ _ 1 _ _ c.tell_items-told.ensures (omega arith) c.if-told-eq0.true).0 ∙ step-item _ _ _ _ some.reads some.below

pub returns-else-told-eq0 : goal.returns-else-told-eq0
returns-else-told-eq0 c =
    let here : Ok (Some c.in-Some.field-0) ≡ left_by c.args.number (count_of (read_of c.args.payload.now)) = search rules in
    let some : Remains c.args.payload.now c.args.number c.in-Some.field-0 = items_left _ _ _ here in
    ap (λ i. Ok (Some i)) c.item_of.ensures
    ∙ told_back _ _ _ 1 _ _ c.tell_items-told.ensures (omega arith) c.if-told-eq0.false
    ∙ step-item _ _ _ _ some.reads some.below
