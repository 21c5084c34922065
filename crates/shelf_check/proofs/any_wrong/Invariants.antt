-- `shelf_check::any_wrong` meets its promise: the search for a section that is wrong.
use mathlib.Core.Path.{◌≡◌}
use mathlib.Core.Bool.{false}
use Rattle.base.specs.Below.{some}
use Rattle.shelf.specs.Record.{wrong_at}
use Rattle.shelf.specs.Layout.{table_in}
use Rattle.shelf_check.proofs.any_wrong.Given as goal

abbrev pub invariant-loop-n : goal.invariant-loop-n
invariant-loop-n l = some l.n (wrong_at (table_in l.words l.p)) ≡ false
