-- `is_among` gathers: what was found, or is among what is left.
use mathlib.Core.Path.{◌∙◌}
use Rattle.clock_record.specs.Held.{is_one}
use native.Mathlib.Omega.{arith}
use Rattle.clock_activation.specs.Activation.{nobody}
use Rattle.clock_record.specs.Words.{helds_in}
use Rattle.clock_record.proofs.Back.{places}
use Rattle.clock_record.proofs.Scan.{gather-step, gather-end}
use borrow.Author.Rules.{rules}
use Rattle.clock_record.proofs.is_among.Goals as goal

pub loop-i-preserved : goal.loop-i-preserved
loop-i-preserved c = let o = c.loop-i in let g = c.args in let z = places g.words.now in
    rw (c.is_one-found.ensures, c.held_at.ensures)
    (gather-step (helds_in g.words.now) g.n (omega (arith, c.requires)) (is_one g.a) nobody o.found o.i (search rules))
    ∙ o.invariant

pub returns : goal.returns
returns c = let o = c.loop-i in let g = c.args in let z = places g.words.now in
    gather-end (helds_in g.words.now) g.n (omega (arith, c.requires)) (is_one g.a) nobody o.found o.i (search rules) ∙ o.invariant
