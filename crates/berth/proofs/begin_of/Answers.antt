-- `berth::begin_of` meets its promise: the test is the definition's.
use Rattle.berth.specs.Calls.{is_place, is_berth, begin_in}
use Rattle.berth.proofs.begin_of.Goals as goal

pub returns-then-size-p : goal.returns-then-size-p
unfolding begin_in is_berth is_place
returns-then-size-p c = rw c.if-size-p.true

pub returns-else-size-p : goal.returns-else-size-p
unfolding begin_in is_berth is_place
returns-else-size-p c = rw c.if-size-p.false
