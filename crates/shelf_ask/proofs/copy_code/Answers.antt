-- `shelf_ask::copy_code` meets its promise.
use Rattle.shelf_ask.proofs.Told.{copy_told}
use Rattle.shelf_ask.proofs.copy_code.Goals as goal

pub returns : goal.returns
returns c = copy_told _ _ _ _ _ c.copy_section.ensures c.sized.ensures
