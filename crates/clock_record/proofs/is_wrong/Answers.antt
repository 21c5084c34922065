-- `is_wrong` is the one expression.
use mathlib.Core.Path.{sym}
use Rattle.clock_record.proofs.Places.{wrong-by}
use Rattle.clock_record.proofs.is_wrong.Goals as goal

pub returns : goal.returns
returns c = let g = c.args in
    rw (c.is_above-above.ensures, c.is_past-past.ensures) (sym (wrong-by g.now g.h))
