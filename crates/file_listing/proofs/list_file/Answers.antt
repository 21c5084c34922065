-- `file_listing::list_file` meets its promise: the text is copied to the front of the output where it fits.
use mathlib.Core.Path.{◌≡◌}
use lib.ListN.{length}
use borrow.Author.Rules.{rules}
use Rattle.file_listing.proofs.Whole.{too_small, fits}
use Rattle.file_listing.proofs.list_file.Goals as goal

pub returns-then-out-size : goal.returns-then-out-size
returns-then-out-size c =
    let long : length c.text_for-text.result.bytes ≡ 718 = search rules in
    too_small _ _ _ long c.text_for-text.ensures c.if-out-size.true

pub returns : goal.returns
returns c =
    let long : length c.text_for-text.result.bytes ≡ 718 = search rules in
    fits _ _ _ long c.text_for-text.ensures c.if-out-size.false c.copy_from_slice.ensures.after
