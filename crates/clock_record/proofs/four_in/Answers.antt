-- `four_in` gathers over all.
use mathlib.Core.Path.{◌∙◌}
use native.Mathlib.Omega.{arith}
use Rattle.clock_record.specs.Codes.{one_of}
use Rattle.clock_record.proofs.Scan.{scan-step, scan-end}
use Rattle.clock_record.proofs.four_in.Goals as goal

pub loop-y-preserved : goal.loop-y-preserved
loop-y-preserved c = let o = c.loop-y in let g = c.args in
    scan-step g.codes.now (one_of g.a g.b g.c g.d) 0 o.found o.y-index (omega arith) ∙ o.invariant

pub returns : goal.returns
returns c = let o = c.loop-y in let g = c.args in
    scan-end g.codes.now (one_of g.a g.b g.c g.d) 0 o.found o.y-index (omega arith) ∙ o.invariant
