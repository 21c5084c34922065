-- `Text::section_line` meets its promise.
use Rattle.file_listing.specs.Listing.{section_line}
use Rattle.file_listing.proofs.Growing.{then}
use Rattle.file_listing.proofs.Text.section_line.Goals as goal

pub returns : goal.returns
unfolding section_line
returns c = then (rw c.from.ensures at c.field.ensures) (then c.field-2.ensures c.byte.ensures)
