-- `programme_listing::list_text` meets its promise: sections, missing lines and the last line follow each other.
use Rattle.programme_listing.proofs.Whole.{the-list}
use Rattle.programme_listing.proofs.list_text.Goals as goal

pub returns : goal.returns
returns c = the-list _ _ _ _ _ c.sections-done.ensures.wrote c.sections-done.ensures.whole_value c.missing_lines-missing.ensures c.end_line.ensures
