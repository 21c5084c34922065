-- `Text::refused_line` meets its promise.
use Rattle.file_listing.specs.Listing.{refused_line}
use Rattle.file_listing.proofs.Growing.{then}
use Rattle.file_listing.proofs.Text.refused_line.Goals as goal

pub returns : goal.returns
unfolding refused_line
returns c = then (rw c.from.ensures at c.field.ensures) c.byte.ensures
