-- `trigger::description_of` meets its contract. Assumes nothing.
use native.Mathlib.Omega.{arith}
use borrow.Author.Tests.{eq-eqb, ne_eqb}
use mathlib.Core.Path.{sym, ◌∙◌}
use Rattle.trigger.specs.Trigger.{description_of}
use Rattle.trigger_faults.proofs.Exits.{Head, head-sound}
use Rattle.trigger.proofs.description_of.Goals as goal

pub returns-then-given-eq0 : goal.returns-then-given-eq0
unfolding description_of
returns-then-given-eq0 c = rw (eq-eqb _ _ (sym c.requires.1 ∙ c.if-given-eq0.true))

pub word_at-requires : goal.word_at-requires
word_at-requires c = let h : Head c.args.payload.now = head-sound _ c.requires.0 in omega arith

pub returns : goal.returns
unfolding description_of
returns c = rw (ne_eqb _ _ (λ e. c.if-given-eq0.false (c.requires.1 ∙ e)), c.word_at.ensures)
