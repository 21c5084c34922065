-- `programme_listing::missing_lines` meets its promise: the loop keeps that the lines below `k` are written.
use mathlib.Core.Path.{refl}
use borrow.Author.Rules.{rules}
use Rattle.programme_listing.proofs.Numbers.{no_line, one_more}
use Rattle.programme_listing.proofs.missing_lines.Goals as goal

pub loop-k-init : goal.loop-k-init
loop-k-init c = (refl, no_line _ _ _)

pub loop-k-preserved : goal.loop-k-preserved
loop-k-preserved c = (search rules, one_more _ _ _ _ c.loop-k.invariant.1 c.missing_of-end.ensures)
