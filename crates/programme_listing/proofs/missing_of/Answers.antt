-- `programme_listing::missing_of` meets its promise.
use Rattle.programme_listing.proofs.Numbers.{no-missing, a-missing}
use Rattle.programme_listing.proofs.missing_of.Goals as goal

pub returns-then-table-from-eq0 : goal.returns-then-table-from-eq0
returns-then-table-from-eq0 c = a-missing _ _ c.from.ensures c.if-table-from-eq0.true c.requires (rw c.from-then-table-from-eq0.ensures at c.line.ensures)

pub returns : goal.returns
returns c = no-missing _ _ c.from.ensures c.if-table-from-eq0.false
