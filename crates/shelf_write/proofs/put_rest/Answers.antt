-- `shelf_write::put_rest` meets its promise: three numbers are set.
use Rattle.shelf_write.proofs.Writes.{rest-set}
use Rattle.shelf_write.proofs.put_rest.Goals as goal

pub returns : goal.returns
returns c = rest-set _ _ _ c.high.ensures c.low.ensures
