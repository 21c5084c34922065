-- `shelf_release::release_code` meets its promise.
use Rattle.shelf_release.proofs.Told.{told}
use Rattle.shelf_release.proofs.release_code.Goals as goal

pub returns : goal.returns
returns c = told _ _ _ c.release_table.ensures c.done.ensures
