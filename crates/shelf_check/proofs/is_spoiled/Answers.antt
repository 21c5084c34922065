-- `shelf_check::is_spoiled` meets its promise: 18 for 0 says so.
use Rattle.shelf_check.proofs.Unless.{told-by-0}
use Rattle.shelf_check.proofs.is_spoiled.Goals as goal

pub returns : goal.returns
returns c = told-by-0 _ c.unless_spoiled.ensures
