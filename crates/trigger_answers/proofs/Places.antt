-- A trigger's places and lengths fit 16 bits, since none has more than 4,096 bytes.
--   narrow       of every trigger that is read
use mathlib.Core.Path.{◌≡◌}
use mathlib.Core.List.{List}
use Prim.Native.Nat.{ℕ, ◌+◌, ◌≤◌}
use native.Mathlib.Omega.{arith}
use lib.ListN.{length}
use Rattle.base.specs.Octets.{Octets}
use Rattle.std.specs.Prelude.{Ok}
use Rattle.trigger.specs.declared.Target.{Target}
use Rattle.trigger.specs.declared.Trigger.{Trigger}
use Rattle.trigger.specs.Trigger.{read_of}
use Rattle.trigger.specs.Places.{TargetLies}
use Rattle.trigger.proofs.Places.{all_placed}
use Rattle.trigger.proofs.Clean.{reads-clean}
use Rattle.trigger_answers.specs.Narrow.{NarrowTarget, NarrowTrigger}

narrow-target : (from to : ℕ) (t : Target) → to ≤ 4096 → TargetLies from to t → NarrowTarget t
narrow-target from to Target.None h l = tt
narrow-target from to (Target.Module m) h l = tt
narrow-target from to (Target.Tap n) h l = tt
narrow-target from to (Target.AbsoluteUri e) h l = (omega arith, omega arith)
narrow-target from to (Target.LidUri e) h l = (omega arith, omega arith)
narrow-target from to (Target.HttpUri e) h l = (omega arith, omega arith)
narrow-target from to (Target.Reserved r) h l = (omega arith, omega arith)

pub narrow : (s : List ℕ) → Octets s → (t : Trigger) → read_of s ≡ Ok t → NarrowTrigger t
narrow s o t e =
    let p = all_placed s o t e in
    let small : length s ≤ 4096 = (reads-clean s t e).0.head.small in
    let user : t.user.place + t.user.length ≡ length s = p.user in
    let id : t.id.place + t.id.length ≤ t.user.place = p.id.1 in
    record {
      id = (omega arith, omega arith);
      target = narrow-target (t.id.place + t.id.length) t.user.place t.target (omega arith) p.target;
      user = (omega arith, omega arith);
    }
