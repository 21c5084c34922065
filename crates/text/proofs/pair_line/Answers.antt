-- `text::pair_line` meets its promise.
use Rattle.text.proofs.Writing.{then}
use Rattle.text.proofs.pair_line.Goals as goal

pub returns : goal.returns
returns c = then c.field-told.ensures c.line.ensures
