-- `programme_lines::head_line` meets its promise: the fields follow each other, each number as the lister writes it.
use native.Mathlib.Omega.{arith}
use Rattle.file_listing.specs.Listing.{head_line}
use Rattle.text.proofs.Short.{same-decimal}
use Rattle.text.proofs.Writing.{then, then-two}
use Rattle.text.specs.Words.{field}
use Rattle.programme_lines.proofs.head_line.Goals as goal

pub returns : goal.returns
unfolding head_line
returns c = let h = c.args.h in
    rw (
      ← same-decimal h.key.table (omega arith),
      ← same-decimal h.key.extension (omega arith),
      ← same-decimal h.version (omega arith),
      ← same-decimal h.last (omega arith),
    )
    (then-two (field "table " h.key.table) (field " key " h.key.extension) (rw (c.from.ensures, c.from-2.ensures) at c.pair-told.ensures)
    (then c.added_words-added.ensures (rw (c.from-3.ensures, c.from-4.ensures) at c.pair_line.ensures)))
