-- `descriptors::is_mark` meets its contract: what the loop has gathered is what holds of every place passed. Assumes nothing.
use borrow.Author.Rules.{rules}
use mathlib.Core.Path.{refl, ◌∙◌}
use Rattle.base.specs.Below.{every}
use Rattle.descriptors.proofs.Gathers.{every-gathers, every-gathered}
use Rattle.descriptors.specs.Letter.{across_case}
use Rattle.descriptors.specs.Mark.{mark, mark_at}
use Rattle.descriptors.proofs.Letters.{match-at}
use Rattle.descriptors.proofs.is_mark.Goals as goal

pub loop-i-init : goal.loop-i-init
unfolding every mark across_case
loop-i-init c = (search rules, record { each = refl }, refl)

pub loop-i-preserved : goal.loop-i-preserved
unfolding mark
loop-i-preserved c = let inv = c.loop-i.invariant in (
  search rules,
  inv.1,
  every-gathers _ _ inv.2 (c.is_either-same.ensures ∙ match-at inv.1 c.loop-i.i (search rules) _),
)

pub returns : goal.returns
unfolding mark_at
returns c = every-gathered _ _ _ (search rules) (search rules) c.loop-i.invariant.2
