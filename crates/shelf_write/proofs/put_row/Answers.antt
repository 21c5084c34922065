-- `shelf_write::put_row` meets its promise: five numbers are set.
use Rattle.shelf_write.specs.Writes.{row_in}
use borrow.Author.Rules.{rules}
use Rattle.shelf_write.proofs.put_row.Goals as goal

pub returns : goal.returns
unfolding row_in
returns c = search rules
