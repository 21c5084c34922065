-- `berth::wipe_where` meets its promise: after each turn the berths passed are wiped where they were picked.
use mathlib.Core.Path.{◌≡◌}
use Rattle.base.specs.Bits.{bit}
use Rattle.berth.proofs.Steps.{wiped_so_far}
use Rattle.berth.proofs.wipe_where.Given as goal

abbrev pub invariant-loop-n : goal.invariant-loop-n
invariant-loop-n l = l.store ≡ wiped_so_far (bit l.mask) l.initial.store l.p l.n
