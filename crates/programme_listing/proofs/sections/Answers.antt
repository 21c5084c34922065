-- `programme_listing::sections` meets its promise: the loop keeps that the sections below `n` are told, and whether each is whole.
use mathlib.Core.Path.{refl, sym}
use borrow.Author.Rules.{rules}
use Rattle.base.proofs.Below.{every-none, every-next}
use Rattle.programme_listing.proofs.Numbers.{no_line, one_more}
use Rattle.programme_listing.proofs.sections.Goals as goal

pub loop-n-init : goal.loop-n-init
loop-n-init c = (refl, no_line _ _ _, sym (every-none _))

pub loop-n-preserved : goal.loop-n-preserved
loop-n-preserved c = (search rules, one_more _ _ _ _ c.loop-n.invariant.1 c.section_of-done.ensures.wrote, rw (c.loop-n.invariant.2, c.section_of-done.ensures.whole_value) (sym (every-next _ _)))
