-- `programme_lines::optional_lines` meets its promise: the lines follow each other.
use Rattle.text.proofs.Writing.{then}
use Rattle.programme_lines.specs.Lines.{playback_line, delay_line, expires_line, size_line}
use Rattle.programme_lines.proofs.optional_lines.Goals as goal

pub returns : goal.returns
unfolding playback_line delay_line expires_line size_line
returns c =
    then (rw (c.flag.ensures, c.from.ensures) at c.line_where-playback.ensures)
    (then (rw (c.flag-2.ensures, c.from-2.ensures) at c.line_where-delay.ensures)
    (then (rw (c.flag-3.ensures, c.from-3.ensures) at c.line_where-expires.ensures) (rw c.flag-4.ensures at c.line_where.ensures)))
