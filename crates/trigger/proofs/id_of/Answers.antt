-- `trigger::id_of` meets its contract. Assumes nothing.
use borrow.Author.Rules.{rules}
use mathlib.Core.Path.{◌≡◌}
use borrow.Author.Tests.{eq-eqb, ne_eqb}
use Rattle.trigger.specs.Trigger.{id_of}
use Rattle.trigger.proofs.id_of.Goals as goal

pub returns-then-given-eq0 : goal.returns-then-given-eq0
unfolding id_of
returns-then-given-eq0 c = rw (eq-eqb _ _ c.if-given-eq0.true)

pub returns : goal.returns
unfolding id_of
returns c = let given : c.from-length.result ≡ c.args.given = search rules in rw (ne_eqb _ _ c.if-given-eq0.false, given)
