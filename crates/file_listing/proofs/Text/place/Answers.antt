-- `Text::place` meets its promise.
use Rattle.file_listing.proofs.Growing.{not-reached, reached}
use Rattle.file_listing.proofs.Text.place.Goals as goal

pub returns-then-power-n : goal.returns-then-power-n
returns-then-power-n c = reached _ _ _ _ c.if-power-n.true c.byte.ensures

pub returns-else-power-n : goal.returns-else-power-n
returns-else-power-n c = not-reached _ _ _ c.if-power-n.false
