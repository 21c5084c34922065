-- `shelf::key_in` meets its promise: the numbers of a place, as a key.
use Rattle.shelf.proofs.Numbers.{key-read}
use Rattle.shelf.proofs.key_in.Goals as goal

pub returns : goal.returns
returns c =
    key-read _ _ c.number_of.ensures c.number_of-extension.ensures c.number_of-service.ensures c.number_of-high.ensures c.number_of-low.ensures
    c.start_of.ensures c.from.ensures
