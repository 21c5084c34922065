-- `put_table` meets its promise: they fit, or they do not.
use borrow.Author.Rules.{rules}
use Rattle.tables.proofs.Puts.{put-short, put-fits}
use Rattle.tables.proofs.put_table.Goals as goal

pub returns-then-fields-lt-FIELDS : goal.returns-then-fields-lt-FIELDS
returns-then-fields-lt-FIELDS c = put-short _ _ (search rules) c.if-fields-lt-FIELDS.true

pub returns : goal.returns
returns c = put-fits _ _ (search rules) c.if-fields-lt-FIELDS.false c.put.ensures
