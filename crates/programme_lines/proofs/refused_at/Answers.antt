-- `programme_lines::refused_at` meets its promise: the fields follow each other.
use Rattle.text.proofs.Writing.{then}
use Rattle.programme_lines.specs.Lines.{refused_at}
use Rattle.programme_lines.proofs.refused_at.Goals as goal

pub returns : goal.returns
unfolding refused_at
returns c = then (rw c.from.ensures at c.field-told.ensures) (rw c.from-2.ensures at c.pair_line.ensures)
