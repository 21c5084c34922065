-- `shelf_check::wrong_at` meets its promise: each `return` is a case of the definition.
use Rattle.shelf_check.proofs.Whole.{wrong-none, wrong-above, wrong-short, wrong-long}
use borrow.Author.Rules.{rules}
use Rattle.shelf_check.proofs.wrong_at.Goals as goal

pub returns-then-length-eq0 : goal.returns-then-length-eq0
returns-then-length-eq0 c = wrong-none _ (search rules) _ (search rules) _ (search rules) c.length_of-length.ensures c.if-length-eq0.true

pub returns-then-from-n : goal.returns-then-from-n
returns-then-from-n c = wrong-above _ (search rules) _ (search rules) _ (search rules) c.length_of-length.ensures c.if-length-eq0.false c.last_of.ensures (search rules)

pub returns-then-length-lt-SHORTEST : goal.returns-then-length-lt-SHORTEST
returns-then-length-lt-SHORTEST c = wrong-short _ (search rules) _ (search rules) _ (search rules) c.length_of-length.ensures c.if-length-eq0.false c.last_of.ensures (search rules) (search rules)

pub returns : goal.returns
returns c = wrong-long _ (search rules) _ (search rules) _ (search rules) c.length_of-length.ensures c.if-length-eq0.false c.last_of.ensures (search rules) (search rules)
