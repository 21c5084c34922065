-- `shelf_check::columns_stop` meets its promise: what has not stopped it is fine, column by column.
use Rattle.shelf_check.proofs.Pass.{Seen}
use Rattle.shelf_check.proofs.columns_stop.Given as goal

abbrev pub invariant-loop-i : goal.invariant-loop-i
invariant-loop-i l = Seen l.words l.stops l.i
