-- `programme_lines::descriptors_line` meets its promise.
use Rattle.programme_lines.specs.Lines.{descriptors_line}
use Rattle.programme_lines.proofs.descriptors_line.Goals as goal

pub returns : goal.returns
unfolding descriptors_line
returns c = rw c.from.ensures at c.pair_line.ensures
