-- `shelf_check::is_bad` meets its promise: by the keys where all else is fine, or in full.
use Rattle.shelf_check.proofs.Quick.{keys-asked}
use Rattle.shelf_check.proofs.is_bad.Goals as goal

pub returns-then-masks_stop-lengths_pass : goal.returns-then-masks_stop-lengths_pass
returns-then-masks_stop-lengths_pass c = keys-asked _ c.masks_stop.ensures c.lengths_pass.ensures c.if-masks_stop-lengths_pass.true c.key_twice.ensures
