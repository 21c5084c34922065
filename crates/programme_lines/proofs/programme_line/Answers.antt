-- `programme_lines::programme_line` meets its promise: the fields follow each other.
use Rattle.text.proofs.Writing.{then, then-two}
use Rattle.text.specs.Words.{field}
use Rattle.programme_lines.specs.Lines.{programme_line}
use Rattle.programme_lines.proofs.programme_line.Goals as goal

pub returns : goal.returns
unfolding programme_line
returns c =
    let p = c.args.p in
    then (rw c.from.ensures at c.field-told.ensures)
    (then-two (field " service " p.service) (field " start " p.start) (rw (c.from-2.ensures, c.from-3.ensures) at c.pair-start.ensures) (rw (c.from-4.ensures, c.from-5.ensures) at c.pair_line.ensures))
