-- `can_be_read` meets its promise: what the two tests that it passed say is found among what is known, whatever they are called.
use borrow.Author.Rules.{rules}
use mathlib.Core.Path.{◌≡◌}
use lib.ListN.{get_or}
use Rattle.trigger_answers.proofs.Laws.{read-ends}
use Rattle.trigger_answers.proofs.can_be_read.Goals as goal

pub returns : goal.returns
returns c = let place : c.from.result ≡ get_or c.args.fields.now 2 0 = search rules in read-ends _ _ (search rules) place (search rules) (search rules) (search rules)
