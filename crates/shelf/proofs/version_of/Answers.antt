-- `shelf::version_of` meets its promise.
use Rattle.shelf.specs.Calls.{version_among}
use Rattle.shelf.proofs.version_of.Goals as goal

pub returns : goal.returns
unfolding version_among
returns c = c.number_of.ensures
