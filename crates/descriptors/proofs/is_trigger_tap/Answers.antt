-- `descriptors::is_trigger_tap` meets its contract: at each return the tests that led there decide the mark. Assumes nothing.
use borrow.Author.Tests.{eq-eqb, ne_eqb}
use borrow.Author.Rules.{rules}
use mathlib.Core.Path.{◌≡◌, sym}
use Rattle.std.specs.Prelude.{Ok, None}
use Rattle.descriptors.specs.Loop.{step_of}
use Rattle.descriptors.specs.Mark.{is_trigger_tap}
use Rattle.descriptors.proofs.Steps.{content-ends}
use Rattle.descriptors.proofs.is_trigger_tap.Goals as goal

pub returns-in_default : goal.returns-in_default
unfolding is_trigger_tap
returns-in_default c = let e : Ok None ≡ step_of c.args.bytes.now c.args.at = search rules in rw (← e)

pub returns-in_default-2 : goal.returns-in_default-2
unfolding is_trigger_tap
returns-in_default-2 c = rw (← c.step_at.ensures, c.in_default.is)

pub returns-then-d-ne-MARK_TAG : goal.returns-then-d-ne-MARK_TAG
unfolding is_trigger_tap
returns-then-d-ne-MARK_TAG c = let e = rw c.in-Ok-Some.field-0-is at c.in-Ok-Some.ensures in rw (sym e, ne_eqb _ _ c.if-d-ne-MARK_TAG.true)

pub returns-then-d-ne-MARK_LENGTH : goal.returns-then-d-ne-MARK_LENGTH
unfolding is_trigger_tap
returns-then-d-ne-MARK_LENGTH c = let e = rw c.in-Ok-Some.field-0-is at c.in-Ok-Some.ensures in
    rw (sym e, eq-eqb _ _ c.if-d-ne-MARK_TAG.false, ne_eqb _ _ c.if-d-ne-MARK_LENGTH.true)

pub is_mark-requires : goal.is_mark-requires
is_mark-requires c = let e = rw c.in-Ok-Some.field-0-is at c.in-Ok-Some.ensures in
    let h = content-ends _ _ _ (sym e) in rw c.if-d-ne-MARK_LENGTH.false at h

pub returns : goal.returns
unfolding is_trigger_tap
returns c = let e = rw c.in-Ok-Some.field-0-is at c.in-Ok-Some.ensures in rw (
  sym e,
  eq-eqb _ _ c.if-d-ne-MARK_TAG.false,
  eq-eqb _ _ c.if-d-ne-MARK_LENGTH.false,
  ← c.is_mark.ensures,
)
