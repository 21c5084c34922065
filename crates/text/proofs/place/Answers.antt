-- `text::place` meets its promise.
use Rattle.text.proofs.Digits.{not-reached, reached}
use Rattle.text.proofs.place.Goals as goal

pub returns-then-n-power : goal.returns-then-n-power
returns-then-n-power c = not-reached _ _ _ _ c.if-n-power.true

pub returns : goal.returns
returns c = reached _ _ _ _ _ _ c.if-n-power.false c.put.ensures
