-- `keep`: the places that are written are what is kept of those passed.
use mathlib.Core.Path.{◌≡◌}
use mathlib.Core.List.{◌∷◌}
use Prim.Native.Nat.{◌≤◌}
use lib.ListN.{length, take}
use Rattle.clock_record.specs.Words.{helds_in, pairs}
use Rattle.clock_keep.specs.Keep.{kept_of}
use Rattle.clock_keep.proofs.keep.Given as goal

abbrev pub invariant-loop-i : goal.invariant-loop-i
invariant-loop-i l = (l.n ≤ 32) × (l.kept ≤ l.i) × (length l.next ≡ 67)
    × (l.kept ≡ length (kept_of l.to (take l.i (helds_in l.words)))) × (l.next ≡ 0 ∷ 0 ∷ 0 ∷ pairs 32 (kept_of l.to (take l.i (helds_in l.words))))
