-- Those that wait, and those that a move reaches, are no more than all that are held.
--   due-fewer
use Prim.Native.Nat.{ℕ, ◌≤◌}
use mathlib.Core.List.{List, [], ◌∷◌}
use native.Mathlib.Omega.{arith}
use lib.ListN.{length}
use Rattle.base.proofs.Cases.{by}
use Rattle.clock_activation.specs.declared.Held.{Held}
use Rattle.clock_record.specs.Waiting.{waiting_of, due_of, reached}
use Rattle.clock_record.proofs.Lists.{only-fewer}

waiting-fewer : (hs : List Held) → length (waiting_of hs) ≤ length hs
unfolding waiting_of
waiting-fewer [] = omega arith
waiting-fewer (h ∷ hs) = let ih = waiting-fewer hs in by h.applied (λ t. rw t (omega arith)) λ f. rw f (omega arith)

pub due-fewer : (to : ℕ) (hs : List Held) → length (due_of to hs) ≤ length hs
due-fewer to hs = omega (arith, only-fewer (reached to) (waiting_of hs), waiting-fewer hs)
