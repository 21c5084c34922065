-- `Text::section_of` meets its promise.
use Rattle.file_listing.proofs.Lines.{no-section, a-section}
use Rattle.file_listing.proofs.Text.section_of.Goals as goal

pub returns-then-length-ne0 : goal.returns-then-length-ne0
returns-then-length-ne0 c = a-section _ _ _ _ c.from.ensures c.if-length-ne0.true c.section_line.ensures

pub returns-else-length-ne0 : goal.returns-else-length-ne0
returns-else-length-ne0 c = no-section _ _ _ c.from.ensures c.if-length-ne0.false
