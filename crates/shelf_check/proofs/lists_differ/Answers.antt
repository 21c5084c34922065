-- `shelf_check::lists_differ` meets its promise: no two of the numbers are the same.
use Rattle.shelf_check.proofs.Pass.{lists-fine}
use Rattle.shelf_check.proofs.lists_differ.Goals as goal

pub returns : goal.returns
returns c = lists-fine _ c.wide_number-first.ensures c.wide_number-second.ensures c.wide_number-third.ensures c.wide_number-fourth.ensures
