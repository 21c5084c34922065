-- `shelf_ask::missing_code` meets its promise.
use Rattle.shelf_ask.proofs.Told.{missing-told}
use Rattle.shelf_ask.proofs.missing_code.Goals as goal

pub returns : goal.returns
returns c = missing-told _ _ _ c.lowest_missing.ensures c.missing_code_of.ensures
