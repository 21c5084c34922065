-- `berth::same_from` meets its promise: the answer is yes exactly while every byte passed is the same.
use mathlib.Core.Path.{sym}
use Rattle.base.proofs.Below.{every-none, every-next}
use Rattle.berth.proofs.same_from.Goals as goal

pub loop-i-init : goal.loop-i-init
loop-i-init c = sym (every-none _)

pub loop-i-preserved : goal.loop-i-preserved
loop-i-preserved c = rw c.loop-i.invariant (sym (every-next _ _))
