-- `writer_file::file_code` meets its promise by the layer's.
use Rattle.writer_file.proofs.Told.{feed-told}
use Rattle.writer_file.proofs.file_code.Goals as goal

pub returns : goal.returns
returns c = feed-told _ _ _ _ _ _ c.feed_file.ensures c.sized.ensures
