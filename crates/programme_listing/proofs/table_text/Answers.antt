-- `programme_listing::table_text` meets its promise.
use Rattle.programme_listing.proofs.Whole.{a-list, no-list}
use Rattle.programme_listing.proofs.table_text.Goals as goal

pub returns-then-table : goal.returns-then-table
returns-then-table c = a-list _ _ _ _ c.head_line-head.ensures c.if-table.true c.list_text.ensures

pub returns : goal.returns
returns c = no-list _ _ _ _ c.head_line-head.ensures c.if-table.false c.word.ensures
