-- `programme_listing::list_programmes` meets its promise: the text is counted, and stands at the front where it fits.
use Rattle.programme_listing.proofs.Whole.{too_small, fits}
use Rattle.programme_listing.proofs.list_programmes.Goals as goal

pub returns-then-out-size : goal.returns-then-out-size
returns-then-out-size c = too_small _ _ _ c.text_for-size.ensures c.if-out-size.true

pub returns : goal.returns
returns c = fits _ _ _ c.text_for-size.ensures c.if-out-size.false c.text_for.ensures
