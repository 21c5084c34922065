-- `shelf::mask_of` meets its promise.
use Rattle.shelf.specs.Calls.{mask_among}
use Rattle.shelf.proofs.mask_of.Goals as goal

pub returns : goal.returns
unfolding mask_among
returns c = c.number_of.ensures
