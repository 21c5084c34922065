-- `shelf_load::load_code` meets its promise.
use Rattle.shelf_load.proofs.Told.{told}
use Rattle.shelf_load.proofs.load_code.Goals as goal

pub returns : goal.returns
returns c = told _ _ _ c.load_file.ensures c.done.ensures
