-- `shelf::last_of` meets its promise.
use Rattle.shelf.specs.Calls.{last_among}
use Rattle.shelf.proofs.last_of.Goals as goal

pub returns : goal.returns
unfolding last_among
returns c = c.number_of.ensures
