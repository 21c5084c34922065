-- `section::service_in` meets its promise: the body is read only where the table is an NRT-IT, which is then long enough.
use Rattle.section.specs.Section.{service_id}
use Rattle.section.proofs.Keys.{of_other, of-list}
use Rattle.section.proofs.service_in.Goals as goal

pub returns-then-table-ne-NRT_IT : goal.returns-then-table-ne-NRT_IT
returns-then-table-ne-NRT_IT c = of_other (service_id c.args.payload.now) c.args.table c.if-table-ne-NRT_IT.true

pub returns : goal.returns
returns c = of-list (service_id c.args.payload.now) c.args.table c.if-table-ne-NRT_IT.false c.word_at.ensures
