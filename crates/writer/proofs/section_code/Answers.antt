-- `writer::section_code` meets its promise: it tells what was written.
use Rattle.writer.proofs.Answers.{write-told}
use Rattle.writer.proofs.section_code.Goals as goal

pub returns : goal.returns
returns c = write-told _ _ _ _ _ _ _ c.write_section.ensures c.sized.ensures
