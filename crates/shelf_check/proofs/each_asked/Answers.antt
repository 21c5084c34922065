-- `shelf_check::each_asked` meets its promise: four places, and the keys.
use Rattle.shelf_check.proofs.Whole.{all-four}
use Rattle.shelf_check.proofs.each_asked.Goals as goal

pub returns : goal.returns
returns c = all-four _ c.place_spoiled.ensures c.place_spoiled-2.ensures c.place_spoiled-3.ensures c.place_spoiled-4.ensures c.key_twice.ensures
