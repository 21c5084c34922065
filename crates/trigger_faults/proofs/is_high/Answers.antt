-- `trigger_faults::is_high` meets its contract: what the loop has gathered is what holds of some place passed. Assumes nothing.
use borrow.Author.Rules.{rules}
use mathlib.Core.Path.{refl, sym}
use Rattle.base.proofs.Below.{some-none}
use Rattle.trigger_faults.proofs.Gathers.{some-gathers, some-gathered}
use Rattle.trigger_faults.specs.Fields.{some_high}
use Rattle.trigger_faults.proofs.is_high.Goals as goal

pub loop-i-init : goal.loop-i-init
loop-i-init c = sym (some-none _)

pub loop-i-preserved : goal.loop-i-preserved
loop-i-preserved c = some-gathers _ _ c.loop-i.invariant refl

pub returns : goal.returns
unfolding some_high
returns c = some-gathered _ _ _ (search rules) (search rules) c.loop-i.invariant
