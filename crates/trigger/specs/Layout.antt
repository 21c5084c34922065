-- Document 01, "A trigger" (A/93, clause 6.2): the bytes of a trigger, from what it says. In order: event type 8; application
-- id length 16, description 16 and id; target type 8, target length 16 and target bytes; user data length 16 and user bytes.
use Rattle.std.specs.Prelude.{ℕ, ◌+◌, ◌/◌, ◌%◌, ◌<◌, ◌≤◌, List, [], ◌∷◌, ◌++◌, length}
use Rattle.base.specs.Octets.{Octets}
use Rattle.base.specs.Bytes.{byte}
use Rattle.trigger.specs.Trigger.{extent}
use Rattle.trigger.specs.declared.Extent.{Extent}
use Rattle.trigger.specs.declared.Target.{Target}
use Rattle.trigger.specs.declared.Trigger.{Trigger}

-- whom a trigger is for: every application, or the one with a description and an id
pub data Application : Type 0 where
  all : Application
  named : ℕ → List ℕ → Application

-- what it aims at: nothing, under some type; a module, by its download, group and own number; a tap; a URI of one of three
-- schemes; bytes of a reserved type
pub data Aim : Type 0 where
  nothing : ℕ → Aim
  modular : ℕ → ℕ → ℕ → Aim
  tap : ℕ → Aim
  absolute : List ℕ → Aim
  lid : List ℕ → Aim
  http : List ℕ → Aim
  reserved : ℕ → List ℕ → Aim

-- what a trigger says
pub record Message : Type 0 where
  pub application : Application
  pub aim : Aim
  pub user : List ℕ

-- a 16-bit number, high byte first; bytes under their 16-bit length
abbrev pub two_bytes : ℕ → List ℕ
two_bytes n = n / 256 ∷ n % 256 ∷ []

abbrev pub counted : List ℕ → List ℕ
counted b = two_bytes (length b) ++ b

-- the bytes that the application id length counts
abbrev pub name_bytes : Application → List ℕ
name_bytes Application.all = []
name_bytes (Application.named d id) = two_bytes d ++ id

-- the target's type, and its bytes
abbrev pub aim_type : Aim → ℕ
aim_type (Aim.nothing t) = t
aim_type (Aim.modular d g n) = 1
aim_type (Aim.tap n) = 2
aim_type (Aim.absolute b) = 3
aim_type (Aim.lid b) = 4
aim_type (Aim.http b) = 5
aim_type (Aim.reserved t b) = t

abbrev pub aim_bytes : Aim → List ℕ
aim_bytes (Aim.nothing t) = []
aim_bytes (Aim.modular d g n) = two_bytes d ++ (two_bytes g ++ two_bytes n)
aim_bytes (Aim.tap n) = two_bytes n
aim_bytes (Aim.absolute b) = b
aim_bytes (Aim.lid b) = b
aim_bytes (Aim.http b) = b
aim_bytes (Aim.reserved t b) = b

-- the fields in their order, each list under its length
abbrev pub laid : List ℕ → ℕ → List ℕ → List ℕ → List ℕ
laid name type target user = 0 ∷ (counted name ++ (type ∷ (counted target ++ counted user)))

-- the bytes of a trigger
unfoldable pub bytes_of : Message → List ℕ
bytes_of m = laid (name_bytes m.application) (aim_type m.aim) (aim_bytes m.aim) m.user

-- Widths: numbers have 16 bits and types 8, bytes are bytes, and those of URIs are below 128. A URI has bytes, and so has a
-- reserved target, whose type is 6 or more. The whole has at most 4,096 bytes.
abbrev pub FitName : Application → Type 0
FitName Application.all = Unit {0}
FitName (Application.named d id) = (d < 65536) × Octets id

abbrev pub FitUri : List ℕ → Type 0
FitUri b = (0 < length b) × ((k : ℕ) → byte b k < 128)

abbrev pub FitAim : Aim → Type 0
FitAim (Aim.nothing t) = t < 256
FitAim (Aim.modular d g n) = (d < 65536) × (g < 65536) × (n < 65536)
FitAim (Aim.tap n) = n < 65536
FitAim (Aim.absolute b) = FitUri b
FitAim (Aim.lid b) = FitUri b
FitAim (Aim.http b) = FitUri b
FitAim (Aim.reserved t b) = (6 ≤ t) × (t < 256) × (0 < length b) × Octets b

pub record Fit (m : Message) : Type 0 where
  pub name : FitName m.application
  pub aim : FitAim m.aim
  pub user : Octets m.user
  pub small : length (bytes_of m) ≤ 4096

-- the answer that a trigger is to be read as: the description, and where each list of bytes stands
abbrev pub description_in : Application → ℕ
description_in Application.all = 0
description_in (Application.named d id) = d

abbrev pub id_in : Application → Extent
id_in Application.all = extent 3 0
id_in (Application.named d id) = extent 5 (length id)

abbrev pub target_in : ℕ → Aim → Target
target_in at (Aim.nothing t) = Target.None
target_in at (Aim.modular d g n) = Target.Module (record { download = d; group = g; number = n })
target_in at (Aim.tap n) = Target.Tap n
target_in at (Aim.absolute b) = Target.AbsoluteUri (extent at (length b))
target_in at (Aim.lid b) = Target.LidUri (extent at (length b))
target_in at (Aim.http b) = Target.HttpUri (extent at (length b))
target_in at (Aim.reserved t b) = Target.Reserved (record { kind = t; bytes = extent at (length b) })

unfoldable pub answer_of : Message → Trigger
answer_of m =
    record {
      idlength = length (name_bytes m.application);
      description = description_in m.application;
      id = id_in m.application;
      target = target_in (3 + length (name_bytes m.application) + 3) m.aim;
      user = extent (3 + length (name_bytes m.application) + 3 + length (aim_bytes m.aim) + 2) (length m.user);
    }
