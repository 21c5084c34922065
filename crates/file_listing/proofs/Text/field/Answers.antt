-- `Text::field` meets its promise: a word, and its number.
use Rattle.file_listing.specs.Words.{decimal}
use Rattle.file_listing.proofs.Growing.{then}
use Rattle.file_listing.proofs.Text.field.Goals as goal

pub returns : goal.returns
unfolding decimal
returns c = then c.word.ensures (rw c.from.ensures at c.digits.ensures)
