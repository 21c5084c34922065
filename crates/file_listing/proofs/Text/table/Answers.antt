-- `Text::table` meets its promise: head, sections and end follow each other.
use Rattle.file_listing.specs.Listing.{table_text}
use Rattle.file_listing.proofs.Growing.{then}
use Rattle.file_listing.proofs.Text.table.Goals as goal

pub returns : goal.returns
unfolding table_text
returns c = then c.head_line.ensures (then c.section_lines.ensures c.end_lines.ensures)
