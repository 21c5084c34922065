-- `Text::missing_of` meets its promise.
use Rattle.file_listing.proofs.Lines.{no-missing, a-missing}
use Rattle.file_listing.proofs.Text.missing_of.Goals as goal

pub returns-then-lengths-from-eq0 : goal.returns-then-lengths-from-eq0
returns-then-lengths-from-eq0 c = a-missing _ _ _ _ c.from.ensures c.if-lengths-from-eq0.true c.missing_line.ensures

pub returns-else-lengths-from-eq0 : goal.returns-else-lengths-from-eq0
returns-else-lengths-from-eq0 c = no-missing _ _ _ c.from.ensures c.if-lengths-from-eq0.false
