-- `text::escaped` meets its promise: the loop keeps what is left of the name.
use borrow.Author.Rules.{rules}
use Rattle.text.proofs.Names.{name-step, name-end}
use Rattle.text.proofs.escaped.Goals as goal

pub loop-b-preserved : goal.loop-b-preserved
loop-b-preserved c =
    (name-step c.args.name.now c.loop-b.b-index (search rules) c.loop-b.invariant.0 c.shown-end.ensures, search rules)

pub returns : goal.returns
returns c = name-end c.args.name.now c.loop-b.b-index (search rules) c.loop-b.invariant.0
