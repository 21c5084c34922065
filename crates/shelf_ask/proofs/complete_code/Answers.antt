-- `shelf_ask::complete_code` meets its promise.
use Rattle.shelf_ask.proofs.Told.{whole-told}
use Rattle.shelf_ask.proofs.complete_code.Goals as goal

pub returns : goal.returns
returns c = whole-told _ _ _ c.complete.ensures c.whole_code_of.ensures
