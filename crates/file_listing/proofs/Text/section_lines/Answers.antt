-- `Text::section_lines` meets its promise: the loop keeps that the lines below `n` are written, each in 26 bytes at most.
use native.Mathlib.Omega.{arith}
use Rattle.file_listing.proofs.Lines.{no_line, one_more, all_lines}
use Rattle.file_listing.proofs.Text.section_lines.Goals as goal

pub loop-n-init : goal.loop-n-init
loop-n-init c = no_line _ 26 _

pub loop-n-preserved : goal.loop-n-preserved
loop-n-preserved c = one_more _ 26 _ _ c.loop-n.invariant c.section_of.ensures

pub returns : goal.returns
returns c = all_lines _ 26 _ _ _ _ (omega arith) (omega arith) c.loop-n.invariant
