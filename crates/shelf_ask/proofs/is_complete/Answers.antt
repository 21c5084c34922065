-- `shelf_ask::is_complete` meets its promise.
use mathlib.Core.Path.{◌∙◌}
use Rattle.shelf_ask.proofs.Told.{plainly, complete-told}
use Rattle.shelf_ask.proofs.is_complete.Goals as goal

pub returns : goal.returns
returns c = complete-told _ _ _ c.complete.ensures (c.unwrap_or.ensures ∙ plainly c.complete.result)
