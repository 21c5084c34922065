-- `programme_lines::name_line` meets its promise.
use Rattle.text.proofs.Writing.{then}
use Rattle.programme_lines.specs.Lines.{name_line}
use Rattle.programme_lines.proofs.name_line.Goals as goal

pub returns : goal.returns
unfolding name_line
returns c = then c.word-told.ensures (then c.escaped-named.ensures c.put.ensures)
