-- Where the places of a trigger's answer lie.
use Rattle.std.specs.Prelude.{ℕ, ◌+◌, ◌≤◌, ◌≡◌, List, length}
use Rattle.trigger.specs.declared.Extent.{Extent}
use Rattle.trigger.specs.declared.Target.{Target}
use Rattle.trigger.specs.declared.Trigger.{Trigger}

-- bytes lie between two places
abbrev pub Lies : ℕ → ℕ → Extent → Type 0
Lies from to e = (from ≤ e.place) × (e.place + e.length ≤ to)

-- the bytes of a target, where it has some
abbrev pub TargetLies : ℕ → ℕ → Target → Type 0
TargetLies from to Target.None = Unit {0}
TargetLies from to (Target.Module m) = Unit {0}
TargetLies from to (Target.Tap n) = Unit {0}
TargetLies from to (Target.AbsoluteUri e) = Lies from to e
TargetLies from to (Target.LidUri e) = Lies from to e
TargetLies from to (Target.HttpUri e) = Lies from to e
TargetLies from to (Target.Reserved r) = Lies from to r.bytes

-- id, target and user data lie in the payload, apart and in this order, and the user data ends it
pub record Placed (s : List ℕ) (t : Trigger) : Type 0 where
  pub id : Lies 3 t.user.place t.id
  pub target : TargetLies (t.id.place + t.id.length) t.user.place t.target
  pub user : t.user.place + t.user.length ≡ length s
