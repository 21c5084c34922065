-- `shelf_check::columns_stop` meets its promise: what has not stopped it is fine, column by column.
use Prim.Native.Nat.{◌≤◌}
use native.Mathlib.Omega.{arith}
use borrow.Author.Tests.{ltb-false}
use Rattle.shelf_check.proofs.Pass.{seen_more}
use Rattle.shelf_check.proofs.columns_stop.Goals as goal

pub loop-i-preserved : goal.loop-i-preserved
loop-i-preserved c = let k = c.loop-i in
    let h = c.highest-length.ensures in
    seen_more _ k.i k.invariant
    (λ a b.
    let low : c.highest-length.result ≤ 1016 = ltb-false _ _ b in
    record {
      first = c.less_eight-w.ensures (omega arith);
      second = c.less_eight-x.ensures (omega arith);
      third = c.less_eight-y.ensures (omega arith);
      fourth = c.less_eight-z.ensures (omega arith);
      head = ltb-false _ _ a;
    })
