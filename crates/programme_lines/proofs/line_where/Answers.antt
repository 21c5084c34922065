-- `programme_lines::line_where` meets its promise.
use Rattle.text.proofs.Writing.{nothing}
use Rattle.programme_lines.proofs.line_where.Goals as goal

pub returns : goal.returns
returns c = rw c.if-there.false (nothing _ _)
