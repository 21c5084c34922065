-- `file_listing::list_code` meets its promise: it tells what was listed.
use Rattle.file_listing.proofs.Answers.{list-told}
use Rattle.file_listing.proofs.list_code.Goals as goal

pub returns : goal.returns
returns c = list-told _ _ _ _ _ c.list_file.ensures c.sized.ensures
