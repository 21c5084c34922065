-- `sound` goes by the record's test.
use Rattle.base.proofs.Tests.{told}
use Rattle.clock.specs.Ask.{sound_in}
use Rattle.clock.proofs.Clock.sound.Goals as goal

pub returns-then-is_spoiled : goal.returns-then-is_spoiled
unfolding sound_in
returns-then-is_spoiled c = rw (told c.is_spoiled.ensures c.if-is_spoiled.true)

pub returns : goal.returns
unfolding sound_in
returns c = rw (told c.is_spoiled.ensures c.if-is_spoiled.false)
