-- `trigger::belongs` meets its contract: each return is a law on the id's bytes. Assumes nothing.
use native.Mathlib.Omega.{arith}
use borrow.Author.Tests.{eq-eqb, ne_eqb}
use mathlib.Core.Path.{◌∙◌}
use Rattle.trigger.specs.Belongs.{belongs_of}
use Rattle.trigger.proofs.Ids.{compared, id-outside, id-inside}
use Rattle.trigger.proofs.belongs.Goals as goal

pub returns-then-idlength-eq0 : goal.returns-then-idlength-eq0
unfolding belongs_of
returns-then-idlength-eq0 c = rw (eq-eqb _ _ c.if-idlength-eq0.true)

pub returns-then-size-place : goal.returns-then-size-place
unfolding belongs_of
returns-then-size-place c = rw (ne_eqb _ _ c.if-idlength-eq0.false) (id-outside _ _ _ _ (omega arith))

pub returns-then-size-place-2 : goal.returns-then-size-place-2
unfolding belongs_of
returns-then-size-place-2 c = rw (ne_eqb _ _ c.if-idlength-eq0.false) (id-outside _ _ _ _ (omega arith))

pub returns : goal.returns
unfolding belongs_of
returns c = rw (ne_eqb _ _ c.if-idlength-eq0.false) (c.eq.ensures ∙ compared _ _ ∙ id-inside _ _ _ _ (omega arith))
