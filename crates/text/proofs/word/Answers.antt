-- `text::word` meets its promise: the loop keeps what is left of the word.
use borrow.Author.Rules.{rules}
use Rattle.text.proofs.Names.{word-step, word_end}
use Rattle.text.proofs.word.Goals as goal

pub loop-b-preserved : goal.loop-b-preserved
loop-b-preserved c =
    (word-step c.args.w.now c.loop-b.b-index (search rules) c.loop-b.invariant.0 c.put-end.ensures, search rules)

pub returns : goal.returns
returns c = word_end c.args.w.now c.loop-b.b-index (search rules) c.loop-b.invariant.0
