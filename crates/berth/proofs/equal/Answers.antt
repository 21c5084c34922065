-- `berth::equal` meets its promise: by two pieces, or byte by byte.
use Rattle.berth.proofs.Steps.{same-other}
use Rattle.berth.proofs.equal.Goals as goal

pub returns-then-a-b : goal.returns-then-a-b
returns-then-a-b c = same-other _ _ c.if-a-b.true
