-- `programme_lines::list_line` meets its promise.
use Rattle.programme_lines.specs.Lines.{list_line}
use Rattle.programme_lines.proofs.list_line.Goals as goal

pub returns : goal.returns
unfolding list_line
returns c = rw c.from.ensures at c.pair_line.ensures
