-- A trigger's places and lengths, as they fit its numbers.
use Rattle.std.specs.Prelude.{◌<◌}
use Rattle.trigger.specs.declared.Extent.{Extent}
use Rattle.trigger.specs.declared.Target.{Target}
use Rattle.trigger.specs.declared.Trigger.{Trigger}

-- places and lengths fit 16 bits
abbrev pub Narrow : Extent → Type 0
Narrow e = (e.place < 65536) × (e.length < 65536)

abbrev pub NarrowTarget : Target → Type 0
NarrowTarget Target.None = Unit {0}
NarrowTarget (Target.Module m) = Unit {0}
NarrowTarget (Target.Tap n) = Unit {0}
NarrowTarget (Target.AbsoluteUri e) = Narrow e
NarrowTarget (Target.LidUri e) = Narrow e
NarrowTarget (Target.HttpUri e) = Narrow e
NarrowTarget (Target.Reserved r) = Narrow r.bytes

pub record NarrowTrigger (t : Trigger) : Type 0 where
  pub id : Narrow t.id
  pub target : NarrowTarget t.target
  pub user : Narrow t.user
