-- `shelf_save::save_code` meets its promise.
use Rattle.shelf_save.proofs.Told.{told}
use Rattle.shelf_save.proofs.save_code.Goals as goal

pub returns : goal.returns
returns c = told _ _ _ _ c.save_table.ensures c.sized.ensures
