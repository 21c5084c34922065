-- `text::line` meets its promise.
use Rattle.text.proofs.Writing.{then}
use Rattle.text.proofs.line.Goals as goal

pub returns : goal.returns
returns c = then c.field-told.ensures c.put.ensures
