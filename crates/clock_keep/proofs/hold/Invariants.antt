-- `hold` writes again what is held, and one more behind it.
use mathlib.Core.Path.{◌≡◌}
use mathlib.Core.List.{◌++◌}
use Prim.Native.Nat.{◌+◌, ◌*◌}
use lib.ListN.{length, take}
use Rattle.clock_record.specs.Words.{helds_in, pairs}
use Rattle.clock_keep.proofs.hold.Given as goal

abbrev pub invariant-loop-i : goal.invariant-loop-i
invariant-loop-i l = (length l.words ≡ 67) × (length l.next ≡ 67) × (take (3 + 2 * l.i) l.next ≡ take 3 l.words ++ pairs l.i (take l.n (helds_in l.words)))
