-- `programme_items::items_at` meets its promise.
use borrow.Author.Rules.{rules}
use mathlib.Core.Path.{◌≡◌, sym, ap, ◌∙◌}
use Prim.Native.Nat.{ℕ, ◌/◌, ◌<◌, min}
use native.Mathlib.Omega.{arith}
use lib.ListN.{length}
use Rattle.std.specs.Prelude.{Ok, Err, Some, None}
use Rattle.refusal.proofs.Numbers.{handed_on}
use Rattle.answers.specs.Answers.{out}
use Rattle.programme.specs.Reading.{read_of, step_of}
use Rattle.programme.specs.Count.{count_of}
use Rattle.programme_items.specs.Items.{walked}
use Rattle.programme_items.specs.Parts.{left_by, chain, told_by}
use Rattle.programme.proofs.Readings.{listed}
use Rattle.programme.proofs.Items.{step-refused, step_over}
use Rattle.programme_items.proofs.Handed.{none_left, over-left, Remains, items_left, told-within, walk_refused, walk-over, walk-short, walk_none, walk-handed}
use Rattle.programme_items.proofs.items_at.Goals as goal

-- a number that is not 0
nonzero : {n : ℕ} → ¬ (n ≡ 0) → 0 < n
nonzero {n} z = omega arith

pub returns-in_err-item_at : goal.returns-in_err-item_at
returns-in_err-item_at c =
    let here : Err c.in_err-item_at.field-0.0 ≡ step_of c.args.payload.now c.args.at c.args.number = search rules in
    ap (λ w. walked w c.args.fields.now) (handed_on c.from_residual.result c.from_residual.ensures.1) ∙ walk_refused _ _ _ _ (sym here)

pub returns-in-None : goal.returns-in-None
returns-in-None c = let here : Ok None ≡ step_of c.args.payload.now c.args.at c.args.number = search rules in walk-over _ _ _ _ (sym here)

pub returns-in-Some : goal.returns-in-Some
returns-in-Some c = let here : Ok (Some c.in-Some.field-0) ≡ step_of c.args.payload.now c.args.at c.args.number = search rules in walk-short _ _ _ _ _ (sym here) c.if-fields-lt-NUMBERS.true

pub returns-in_err-many : goal.returns-in_err-many
returns-in_err-many c =
    let here : Err c.in_err-many.field-0.0 ≡ left_by c.args.number (count_of (read_of c.args.payload.now)) = search rules in
    ap (λ w. walked w c.args.fields.now) (handed_on c.from_residual-in_err-many.result c.from_residual-in_err-many.ensures.1)
    ∙ walk_refused _ _ _ _ (sym (step-refused _ _ _ _ (none_left _ _ _ here)))

pub returns-in_default : goal.returns-in_default
returns-in_default c =
    let here : Ok None ≡ left_by c.args.number (count_of (read_of c.args.payload.now)) = search rules in
    let o = over-left _ _ here in walk-over _ _ _ _ (sym (step_over _ _ _ o.0 o.1.0 o.1.1))

pub tell_items-told-requires : goal.tell_items-told-requires
tell_items-told-requires c =
    let here : Ok (Some c.in-Some-2.many) ≡ left_by c.args.number (count_of (read_of c.args.payload.now)) = search rules in
    let some : Remains c.args.payload.now c.args.number c.in-Some-2.many = items_left _ _ _ here in
    let l = listed _ _ some.reads in (omega (arith, l.small), omega (arith, c.min-most.ensures))

pub returns-then-told-eq0 : goal.returns-then-told-eq0
returns-then-told-eq0 c =
    let here : Ok (Some c.in-Some-2.many) ≡ left_by c.args.number (count_of (read_of c.args.payload.now)) = search rules in
    let some : Remains c.args.payload.now c.args.number c.in-Some-2.many = items_left _ _ _ here in
    let told : out c.tell_items-told.result c.tell_items-told.new.fields ≡ told_by c.args.fields.now (chain (min (length c.args.fields.now / 10) c.in-Some-2.many) c.args.payload.now c.args.at)
    = c.tell_items-told.ensures ∙ ap (λ m. told_by c.args.fields.now (chain m c.args.payload.now c.args.at)) c.min-most.ensures in
    walk_none _ _ _ _ some c.if-fields-lt-NUMBERS.false told c.if-told-eq0.true

pub offset_bounds-fields-told : goal.offset_bounds-fields-told
offset_bounds-fields-told c = let l = told-within _ _ _ _ _ _ c.tell_items-told.ensures (omega (arith, c.min-most.ensures)) in search (rules, l)

pub bounds-fields-told : goal.bounds-fields-told
bounds-fields-told c =
    let l = told-within _ _ _ _ _ _ c.tell_items-told.ensures (omega (arith, c.min-most.ensures)) in
    let z = nonzero c.if-told-eq0.false in omega (arith, l, z, c.tell_items-told.auto.fields)

pub returns : goal.returns
returns c =
    let here : Ok (Some c.in-Some-2.many) ≡ left_by c.args.number (count_of (read_of c.args.payload.now)) = search rules in
    let some : Remains c.args.payload.now c.args.number c.in-Some-2.many = items_left _ _ _ here in
    let told : out c.tell_items-told.result c.tell_items-told.new.fields ≡ told_by c.args.fields.now (chain (min (length c.args.fields.now / 10) c.in-Some-2.many) c.args.payload.now c.args.at)
    = c.tell_items-told.ensures ∙ ap (λ m. told_by c.args.fields.now (chain m c.args.payload.now c.args.at)) c.min-most.ensures in
    walk-handed _ _ _ _ some c.if-fields-lt-NUMBERS.false told c.if-told-eq0.false
