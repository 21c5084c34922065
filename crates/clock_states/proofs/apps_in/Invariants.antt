-- `apps_in` takes one digit more at a time.
use mathlib.Core.Path.{◌≡◌}
use Prim.Native.Nat.{ℕ, ◌<◌, ◌/◌, ◌^◌}
use lib.ListN.{length, get_or}
use Rattle.clock_rule.specs.declared.State.{State}
use Rattle.clock_states.specs.States.{app_at}
use Rattle.clock_states.proofs.apps_in.Given as goal

abbrev pub invariant-loop-app : goal.invariant-loop-app
invariant-loop-app l =
    (length l.app-items ≡ 8)
    × ((k : ℕ) → k < l.app-index → get_or l.app-items k (record { state = State.Released }) ≡ app_at l.word k) × (l.rest ≡ l.word / 4 ^ l.app-index)
