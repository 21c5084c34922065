-- A payload without a fault: what holds of it, and that it alone is read as a trigger.
--   clean-reads   it is read as the trigger that its fields say
--   reads-clean   what is read as a trigger is clean, and the trigger is that one
use mathlib.Core.Path.{◌≡◌, refl, sym}
use mathlib.Core.List.{List}
use Prim.Native.Nat.{ℕ, ◌+◌, ◌≤◌}
use native.Mathlib.Omega.{arith}
use lib.ListN.{length}
use borrow.Author.Tests.{le-ltb, ne_eqb}
use Rattle.std.specs.Prelude.{Ok, Err}
use Rattle.base.specs.Bytes.{word}
use Rattle.trigger.specs.declared.Trigger.{Trigger}
use Rattle.trigger_faults.specs.Fields.{head_faults, target_faults, user_faults, target_at, user_at, faults}
use Rattle.trigger_faults.specs.Parts.{head_fault, target_fault, user_fault}
use Rattle.trigger.specs.Trigger.{trigger_of, read_of}
use Rattle.trigger_faults.proofs.Tables.{goes, clear}
use Rattle.trigger_faults.proofs.Exits.{Head, Aimed, Ended, head-sound, target_sound, user-sound, read-on, all_sound}

pub record Clean (s : List ℕ) : Type 0 where
  pub head : Head s
  pub target : Aimed s (target_at s)
  pub user : Ended s (user_at s)

no-head : (s : List ℕ) → Head s → head_fault s ≡ Ok tt
unfolding head_fault
no-head s h =
    let z : 1 ≤ length s = (let a : 3 ≤ length s = h.sized in omega arith) in
    goes Err (head_faults s) (Ok tt)
    (le-ltb _ _ h.small, (le-ltb _ _ z, (rw h.event refl, (le-ltb _ _ h.sized, (ne_eqb _ _ h.allowed, (le-ltb _ _ h.ends, tt))))))

no_target : (s : List ℕ) (at : ℕ) → Aimed s at → target_fault s at ≡ Ok tt
unfolding target_fault
no_target s at h =
    goes Err (target_faults s at) (Ok tt)
    (le-ltb _ _ h.sized, (h.allowed, (le-ltb _ _ h.ends, (h.ascii, tt))))

no-user : (s : List ℕ) (at : ℕ) → Ended s at → user_fault s at ≡ Ok tt
unfolding user_fault
no-user s at h =
    let e = h.ends in
    goes Err (user_faults s at) (Ok tt)
    (le-ltb _ _ h.sized, (le-ltb (length s) (at + 2 + word s at) (omega arith), (le-ltb (at + 2 + word s at) (length s) (omega arith), tt)))

pub clean-reads : (s : List ℕ) → Clean s → read_of s ≡ Ok (trigger_of s)
unfolding read_of
clean-reads s c = sym (read-on Err (Ok (trigger_of s)) s (no-head s c.head) (no_target s (target_at s) c.target) (no-user s (user_at s) c.user))

pub reads-clean : (s : List ℕ) (t : Trigger) → read_of s ≡ Ok t → Clean s × (t ≡ trigger_of s)
unfolding read_of
reads-clean s t e =
    let c = clear (faults s) (trigger_of s) t e in
    let w = all_sound s c.0 in
    (record { head = head-sound s w.head; target = target_sound s (target_at s) w.target; user = user-sound s (user_at s) w.user }, c.1)
