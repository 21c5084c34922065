-- `programme_lines::item_text` meets its promise: the lines follow each other.
use Rattle.text.proofs.Writing.{then}
use Rattle.programme_lines.specs.Lines.{item_text}
use Rattle.programme_lines.proofs.item_text.Goals as goal

pub returns : goal.returns
unfolding item_text
returns c = then c.item_line-item.ensures (then c.flags_line-flags.ensures (then c.optional_lines-included.ensures (then c.name_line-named.ensures c.descriptors_line.ensures)))
