-- Places are true: they lie in the payload, apart and in order, and what stands there is what the trigger says.
--   all_placed                           of every trigger that is read
--   id_shown, target_shown, user_shown   the bytes at the places
use mathlib.Core.Path.{sym, subst}
use mathlib.Core.List.{List, ◌∷◌, ◌++◌}
use Prim.Native.Nat.{ℕ, ◌+◌, ◌≤◌}
use native.Mathlib.Omega.{arith}
use lib.ListN.{length}
use lib.Seq.{take-append_seam}
use Rattle.trigger.specs.Layout.{Application, Aim, Message, name_bytes, aim_type, aim_bytes, id_in, target_in, counted, bytes_of, answer_of}
use Rattle.trigger.specs.Theorems.{aimed, ended, TargetShown, UserShown, IdShown, AllPlaced}
use Rattle.trigger.specs.Message.{message_of}
use Rattle.trigger.specs.Places.{Lies, TargetLies, Placed}
use Rattle.trigger.proofs.Laid.{target-part, user-part, whole_length}
use Rattle.trigger.proofs.Reading.{read_bytes}

name-lies : (a : Application) (to : ℕ) → 3 + length (name_bytes a) ≤ to → Lies 3 to (id_in a)
name-lies Application.all to h = omega arith
name-lies (Application.named d id) to h = omega arith

name-ends : (a : Application) (to : ℕ) → 3 + length (name_bytes a) ≤ to → (id_in a).place + (id_in a).length ≤ to
name-ends a to h = (name-lies a to h).1

target-lies : (from to at : ℕ) (a : Aim) → from ≤ at → at + length (aim_bytes a) ≤ to → TargetLies from to (target_in at a)
target-lies from to at (Aim.nothing t) h k = tt
target-lies from to at (Aim.modular d g n) h k = tt
target-lies from to at (Aim.tap n) h k = tt
target-lies from to at (Aim.absolute b) h k = (h, k)
target-lies from to at (Aim.lid b) h k = (h, k)
target-lies from to at (Aim.http b) h k = (h, k)
target-lies from to at (Aim.reserved t b) h k = (h, k)

module _ (m : Message) where
  pub message-placed : Placed (bytes_of m) (answer_of m)
  unfolding bytes_of answer_of
  message-placed =
      record {
        id = name-lies m.application (ended m) (omega arith);
        target =
            target-lies ((id_in m.application).place + (id_in m.application).length) (ended m) (aimed m) m.aim
            (name-ends m.application (aimed m) (omega arith))
            (omega arith);
        user = sym (whole_length (name_bytes m.application) (aim_type m.aim) (aim_bytes m.aim) m.user);
      }

  pub target_shown : TargetShown m
  unfolding bytes_of
  target_shown = target-part (name_bytes m.application) (aim_type m.aim) (aim_bytes m.aim) m.user

  pub user_shown : UserShown m
  unfolding bytes_of
  user_shown = user-part (name_bytes m.application) (aim_type m.aim) (aim_bytes m.aim) m.user

pub id_shown : IdShown
unfolding bytes_of
id_shown d id aim user = take-append_seam id (aim_type aim ∷ (counted (aim_bytes aim) ++ counted user))

pub all_placed : (s : List ℕ) → AllPlaced s
all_placed s o t e = let w = read_bytes s o t e in rw w.2 (subst (λ l. Placed l (answer_of (message_of s))) (sym w.1) (message-placed (message_of s)))
