-- `two_of_four` looks at the six pairs.
use Rattle.clock_record.proofs.Scan.{two-of-four}
use Rattle.clock_record.proofs.two_of_four.Goals as goal

pub returns : goal.returns
returns c = let g = c.args in two-of-four g.a g.b g.c g.d
