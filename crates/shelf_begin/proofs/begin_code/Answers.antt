-- `shelf_begin::begin_code` meets its promise.
use Rattle.shelf_begin.proofs.Told.{told}
use Rattle.shelf_begin.proofs.begin_code.Goals as goal

pub returns : goal.returns
returns c = told _ _ c.begin_shelf.ensures c.done.ensures
