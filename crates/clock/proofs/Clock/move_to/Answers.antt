-- `move_to` hands back what `advance` answers and leaves.
use Rattle.clock.specs.Record.{move_to}
use Rattle.clock.proofs.Clock.move_to.Goals as goal

pub returns : goal.returns
unfolding move_to
returns c = rw (c.advance-answer.ensures.value, c.advance-answer.ensures.record_after)
