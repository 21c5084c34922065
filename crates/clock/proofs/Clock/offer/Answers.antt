-- `offer` hands back what `hear` answers and leaves.
use Rattle.clock.specs.Record.{offer_to}
use Rattle.clock.proofs.Clock.offer.Goals as goal

pub returns : goal.returns
unfolding offer_to
returns c = rw (c.hear-answer.ensures.value, c.hear-answer.ensures.record_after)
