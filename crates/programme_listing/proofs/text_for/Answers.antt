-- `programme_listing::text_for` meets its promise by how the file reads.
use borrow.Author.Rules.{rules}
use mathlib.Core.Path.{◌∙◌}
use Rattle.programme_listing.proofs.Whole.{refused-text, table-text, lies}
use Rattle.programme_listing.proofs.text_for.Goals as goal

pub table_text-requires : goal.table_text-requires
table_text-requires c = lies c.args.file.now c.in-Ok.table (search rules)

pub returns-in-Ok : goal.returns-in-Ok
returns-in-Ok c = table-text c.args.file.now c.in-Ok.table (search rules) c.table_text.ensures

pub returns-in-Err : goal.returns-in-Err
returns-in-Err c = refused-text c.args.file.now c.in-Err.refusal (search rules) (c.from-in-Err.ensures ∙ c.from.ensures) c.line.ensures
