-- Document 01, "A trigger" (A/93, clause 6) and "Numbers of refusal": when each is given, field by field.
-- A field's 20 precedes its rule; 23 precedes the target bytes' 20, and 24 follows it.
use Rattle.std.specs.Prelude.{ℕ, ◌+◌, List, [], ◌∷◌, ◌++◌, Bool, not, ◌&&◌, ◌||◌, length, ltb, leb, eqb}
use Rattle.refusal.specs.declared.Refusal.TheVariants.{TriggerCutOff, TriggerOtherEvent, TriggerForbiddenIdLength, TriggerWrongTargetLength, TriggerHighUriByte, TriggerBytesLeft, TriggerTooLong}
use Rattle.base.specs.Choice.{Row, ◌if◌}
use Rattle.base.specs.Bytes.{byte, word}
use Rattle.base.specs.Below.{some}

-- the trigger ends inside a field that goes up to a place
abbrev pub cut : List ℕ → ℕ → Bool
cut s end = ltb (length s) end

-- type 0 with length; type 1 with length not 0 or 6; type 2 with length not 0 or 2
unfoldable pub wrong_length : ℕ → ℕ → Bool
wrong_length type n =
    eqb type 0 && not (eqb n 0)
    || (eqb type 1 && not (eqb n 0 || eqb n 6)
    || eqb type 2 && not (eqb n 0 || eqb n 2))

-- absolute, lid and http URIs
unfoldable pub is_uri : ℕ → Bool
is_uri type = leb 3 type && leb type 5

-- a byte above 127 is among the n from a place
unfoldable pub some_high : List ℕ → ℕ → ℕ → Bool
some_high s at n = some n (λ k. ltb 127 (byte s (at + k)))

-- 26; event type 8; application id length 16; description 16 and id, which that length counts
abbrev pub head_faults : List ℕ → List Row
head_faults s =
    TriggerTooLong if ltb 4096 (length s)
    ∷ TriggerCutOff if cut s 1
    ∷ TriggerOtherEvent if not (eqb (byte s 0) 0)
    ∷ TriggerCutOff if cut s 3
    ∷ TriggerForbiddenIdLength if eqb (word s 1) 1
    ∷ TriggerCutOff if cut s (3 + word s 1)
    ∷ []

-- target type 8 and target length 16, from a place; target bytes
abbrev pub target_faults : List ℕ → ℕ → List Row
target_faults s at =
    TriggerCutOff if cut s (at + 3)
    ∷ TriggerWrongTargetLength if wrong_length (byte s at) (word s (at + 1))
    ∷ TriggerCutOff if cut s (at + 3 + word s (at + 1))
    ∷ TriggerHighUriByte if (is_uri (byte s at) && some_high s (at + 3) (word s (at + 1)))
    ∷ []

-- user data length 16, from a place; user bytes; end
abbrev pub user_faults : List ℕ → ℕ → List Row
user_faults s at =
    TriggerCutOff if cut s (at + 2)
    ∷ TriggerCutOff if cut s (at + 2 + word s at)
    ∷ TriggerBytesLeft if ltb (at + 2 + word s at) (length s)
    ∷ []

-- the application id's length; the places of the target's type and of the user data's length
abbrev pub id_length : List ℕ → ℕ
id_length s = word s 1

abbrev pub target_at : List ℕ → ℕ
target_at s = 3 + id_length s

abbrev pub user_at : List ℕ → ℕ
user_at s = target_at s + 3 + word s (target_at s + 1)

-- 26, then field by field
abbrev pub faults : List ℕ → List Row
faults s = head_faults s ++ (target_faults s (target_at s) ++ user_faults s (user_at s))
