-- `text::put` meets its promise, with room for the byte and without.
use Rattle.text.proofs.Writing.{one, no_room}
use Rattle.text.proofs.put.Goals as goal

pub returns-then-at-out : goal.returns-then-at-out
returns-then-at-out c = one _ _ _ _ c.next_place.ensures

pub returns : goal.returns
returns c = no_room _ _ _ _ c.next_place-2.ensures c.if-at-out.false
