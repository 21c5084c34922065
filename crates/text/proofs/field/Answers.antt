-- `text::field` meets its promise.
use Rattle.text.proofs.Writing.{then}
use Rattle.text.proofs.field.Goals as goal

pub returns : goal.returns
returns c = then c.word-named.ensures c.number.ensures
