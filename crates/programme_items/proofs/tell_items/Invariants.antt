-- `programme_items::tell_items` meets its contract: the loop keeps what is left of the items.
use Prim.Native.Nat.{◌-◌, ◌*◌}
use Rattle.programme_items.proofs.Chains.{Going}
use Rattle.programme_items.proofs.tell_items.Given as goal

abbrev pub invariant-loop-i : goal.invariant-loop-i
invariant-loop-i l = Going l.bytes l.at l.most l.initial.fields l.fields l.place (l.most - l.i) (10 * l.i)
