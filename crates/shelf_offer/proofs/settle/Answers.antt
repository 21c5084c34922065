-- `shelf_offer::settle` meets its promise: a record that has passed is not spoiled.
use Rattle.shelf_check.proofs.Unless.{unspoiled}
use Rattle.shelf_offer.proofs.settle.Goals as goal

pub returns-then-passed : goal.returns-then-passed
returns-then-passed c = unspoiled _ (c.requires c.if-passed.true)
