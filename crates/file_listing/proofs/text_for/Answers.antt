-- `file_listing::text_for` meets its promise: a table that was read has a last number of at most 15, so its lines have room.
-- the text begins empty
use borrow.Author.Rules.{rules}
use Rattle.file_listing.proofs.Whole.{refused-text, table-text, table-last}
use Rattle.file_listing.proofs.text_for.Goals as goal

pub table-requires-clause-last_bound : goal.table-requires-clause-last_bound
table-requires-clause-last_bound c = table-last c.args.file.now c.in-Ok.table (search rules)

pub returns-in-Ok : goal.returns-in-Ok
returns-in-Ok c = table-text c.args.file.now _ _ c.empty-text.ensures c.in-Ok.table (search rules) c.table.ensures

pub returns-in-Err : goal.returns-in-Err
returns-in-Err c = refused-text c.args.file.now _ _ c.empty-text.ensures c.in-Err.refusal (search rules) c.from.ensures c.refused_line.ensures
