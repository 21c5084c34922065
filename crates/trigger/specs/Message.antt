-- What a payload says, read as a trigger: the message whose bytes it is to be.
use Rattle.std.specs.Prelude.{ℕ, ◌+◌, List, length, drop, eqb, if◌then◌else◌}
use Rattle.base.specs.Bytes.{byte, word, part}
use Rattle.trigger_faults.specs.Fields.{id_length, target_at, user_at}
use Rattle.trigger.specs.Layout.{Application, Aim, Message}

-- the bytes that the application id length counts
unfoldable pub name_from : List ℕ → Application
name_from c = if eqb (length c) 0 then Application.all else Application.named (word c 0) (drop 2 c)

-- target bytes under their type
unfoldable pub aim_from : ℕ → List ℕ → Aim
aim_from type b =
    if eqb (length b) 0 then Aim.nothing type
    else (if eqb type 1 then Aim.modular (word b 0) (word b 2) (word b 4)
    else (if eqb type 2 then Aim.tap (word b 0)
    else (if eqb type 3 then Aim.absolute b
    else (if eqb type 4 then Aim.lid b
    else (if eqb type 5 then Aim.http b
    else Aim.reserved type b)))))

-- the bytes of the three lists of a payload
abbrev pub name_in : List ℕ → List ℕ
name_in s = part s 3 (id_length s)

abbrev pub target_bytes_in : List ℕ → List ℕ
target_bytes_in s = part s (target_at s + 3) (word s (target_at s + 1))

abbrev pub user_in : List ℕ → List ℕ
user_in s = part s (user_at s + 2) (word s (user_at s))

unfoldable pub message_of : List ℕ → Message
message_of s = record { application = name_from (name_in s); aim = aim_from (byte s (target_at s)) (target_bytes_in s); user = user_in s }
