-- `programme_lines::item_line` meets its promise.
use Rattle.programme_lines.specs.Lines.{item_line}
use Rattle.programme_lines.proofs.item_line.Goals as goal

pub returns : goal.returns
unfolding item_line
returns c = rw (c.from.ensures, c.from-2.ensures) at c.pair_line.ensures
