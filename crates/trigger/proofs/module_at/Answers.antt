-- `trigger::module_at` meets its contract. Assumes nothing.
use Rattle.trigger.specs.Trigger.{module_of}
use Rattle.trigger.proofs.module_at.Goals as goal

pub returns : goal.returns
unfolding module_of
returns c = rw (c.word_at-download.ensures, c.word_at-group.ensures, c.word_at-number.ensures)
