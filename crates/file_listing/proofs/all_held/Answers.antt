-- `file_listing::all_held` meets its promise: the loop keeps whether every number below is held.
use mathlib.Core.Path.{sym}
use Rattle.base.proofs.Below.{every-none, every-next}
use Rattle.file_listing.proofs.all_held.Goals as goal

pub loop-number-init : goal.loop-number-init
loop-number-init c = sym (every-none _)

pub loop-number-preserved : goal.loop-number-preserved
loop-number-preserved c = rw (c.from.ensures, c.loop-number.invariant) (sym (every-next _ _))
