-- `shelf::lengths_of` meets its promise: length by length.
use native.Mathlib.Omega.{arith}
use Rattle.shelf.proofs.Lists.{filled-all}
use Rattle.shelf.proofs.lengths_of.Goals as goal

pub returns : goal.returns
returns c = let k = c.loop-n in
    filled-all _ 16 _ _ (omega arith) k.invariant.0 k.invariant.1
