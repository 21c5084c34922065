-- `Text::head_line` meets its promise: the fields follow each other.
use Rattle.file_listing.specs.Listing.{head_line}
use Rattle.file_listing.proofs.Growing.{then}
use Rattle.file_listing.proofs.Text.head_line.Goals as goal

pub returns : goal.returns
unfolding head_line
returns c =
    let table = rw c.from.ensures at c.field.ensures in
    let version = rw c.from-2.ensures at c.field-3.ensures in
    let last = rw c.from-3.ensures at c.field-4.ensures in
    then table (then c.field-2.ensures (then c.added_words.ensures (then version (then last c.byte.ensures))))
