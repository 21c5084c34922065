-- `section::start_in` meets its promise: the body is read only where the table is an NRT-IT, which is then long enough.
use mathlib.Core.Path.{◌∙◌}
use Rattle.section.specs.Section.{time_span_start}
use Rattle.section.proofs.Keys.{of_other, of-list}
use Rattle.section.proofs.start_in.Goals as goal

pub returns-then-table-ne-NRT_IT : goal.returns-then-table-ne-NRT_IT
returns-then-table-ne-NRT_IT c = of_other (time_span_start c.args.payload.now) c.args.table c.if-table-ne-NRT_IT.true

pub returns : goal.returns
returns c = of-list (time_span_start c.args.payload.now) c.args.table c.if-table-ne-NRT_IT.false
    (c.start_of.ensures ∙ rw (c.word_at.ensures, c.word_at-2.ensures))
