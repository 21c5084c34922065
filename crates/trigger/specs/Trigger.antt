-- Document 01, "A trigger" (A/93, clause 6): what a payload says, read as a trigger.
use Rattle.std.specs.Prelude.{ℕ, ◌+◌, ◌-◌, List, eqb, if◌then◌else◌, Result, Ok, Err}
use Rattle.refusal.specs.declared.Refusal.{Refusal}
use Rattle.base.specs.Choice.{first}
use Rattle.base.specs.Bytes.{byte, word}
use Rattle.trigger_faults.specs.Fields.{id_length, target_at, user_at, faults}
use Rattle.trigger.specs.declared.Extent.{Extent}
use Rattle.trigger.specs.declared.Module.{Module}
use Rattle.trigger.specs.declared.Target.{Target}
use Rattle.trigger.specs.declared.Trigger.{Trigger}

-- n bytes from a place
abbrev pub extent : ℕ → ℕ → Extent
extent place n = record { place = place; length = n }

-- when the application id's length is 0 the description is 0 and the id has place 3, length 0
unfoldable pub description_of : List ℕ → ℕ
description_of s = if eqb (id_length s) 0 then 0 else word s 3

unfoldable pub id_of : ℕ → Extent
id_of n = if eqb n 0 then extent 3 0 else extent 5 (n - 2)

-- a module's three numbers, from a place
unfoldable pub module_of : List ℕ → ℕ → Module
module_of s at = record { download = word s at; group = word s (at + 2); number = word s (at + 4) }

-- a target of a type and n bytes from a place: length 0 under any type means no explicit target
abbrev pub kind_of : List ℕ → ℕ → ℕ → ℕ → Target
kind_of s type at n =
    if eqb n 0 then Target.None
    else (if eqb type 1 then Target.Module (module_of s at)
    else (if eqb type 2 then Target.Tap (word s at)
    else (if eqb type 3 then Target.AbsoluteUri (extent at n)
    else (if eqb type 4 then Target.LidUri (extent at n)
    else (if eqb type 5 then Target.HttpUri (extent at n)
    else Target.Reserved (record { kind = type; bytes = extent at n }))))))

-- the target whose type stands at a place
unfoldable pub target_of : List ℕ → ℕ → Target
target_of s at = kind_of s (byte s at) (at + 3) (word s (at + 1))

-- the user data whose length stands at a place
abbrev pub user_of : List ℕ → ℕ → Extent
user_of s at = extent (at + 2) (word s at)

-- the trigger that a payload without a fault is
unfoldable pub trigger_of : List ℕ → Trigger
trigger_of s =
    record {
      idlength = id_length s;
      description = description_of s;
      id = id_of (id_length s);
      target = target_of s (target_at s);
      user = user_of s (user_at s);
    }

-- the first fault from the left, or the trigger
unfoldable pub read_of : List ℕ → Result Trigger Refusal
read_of s = first Err (faults s) (Ok (trigger_of s))
