-- `shelf_check::key_twice` meets its promise: six pairs.
use Rattle.shelf_check.proofs.Whole.{all-pairs}
use Rattle.shelf_check.proofs.key_twice.Goals as goal

pub returns : goal.returns
returns c = all-pairs _ c.one_key.ensures c.one_key-2.ensures c.one_key-3.ensures c.one_key-4.ensures c.one_key-5.ensures c.one_key-6.ensures
