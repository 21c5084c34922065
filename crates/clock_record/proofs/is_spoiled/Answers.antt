-- `is_spoiled` goes by the three parts of its meaning.
use borrow.Author.Tests.{lt-ltb, le-ltb}
use Rattle.base.proofs.Tests.{told}
use Rattle.clock_record.specs.Held.{spoiled_by}
use Rattle.clock_record.proofs.is_spoiled.Goals as goal

pub returns-then-n-gt-HELD : goal.returns-then-n-gt-HELD
unfolding spoiled_by
returns-then-n-gt-HELD c = rw (lt-ltb _ _ c.if-n-gt-HELD.true)

pub returns-then-any_wrong : goal.returns-then-any_wrong
unfolding spoiled_by
returns-then-any_wrong c = rw (le-ltb _ _ c.if-n-gt-HELD.false, told c.any_wrong.ensures c.if-any_wrong.true)

pub returns : goal.returns
unfolding spoiled_by
returns c = rw (le-ltb _ _ c.if-n-gt-HELD.false, told c.any_wrong.ensures c.if-any_wrong.false) c.two_alike.ensures
