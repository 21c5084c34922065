-- How the boundary answers the reading of a trigger: a number of refusal or 0, and the trigger's eleven numbers in a lent buffer.
use Rattle.std.specs.Prelude.{ℕ, ◌+◌, ◌≤◌, ◌≡◌, List, Bool, ◌&&◌, ◌↔◌, leb, eqb, length, get_or, Ok}
use Rattle.answers.specs.Answers.{Out, puts}
use Rattle.trigger.specs.declared.Trigger.{Trigger}
use Rattle.trigger.specs.Trigger.{read_of}
use Rattle.trigger.specs.Belongs.{belongs_of}
use Rattle.trigger.specs.Answer.{trigger_told, trigger_back}

-- the payload's number and values, put into the buffer
unfoldable pub trigger_lent : List ℕ → List ℕ → Out
trigger_lent s fields = puts (trigger_told (read_of s)) fields

-- Of reading a payload `s` into a buffer:
module _ (s fields : List ℕ) where
  -- a refused call leaves the buffer as it was
  abbrev pub ReadUntouched : Type 0
  ReadUntouched = ¬ ((trigger_lent s fields).code ≡ 0) → (trigger_lent s fields).out ≡ fields

  -- the answer is 0 exactly when the payload is a trigger and the buffer has room for its numbers
  abbrev pub ReadAccepted : Type 0
  ReadAccepted = ((trigger_lent s fields).code ≡ 0) ↔ (((t : Trigger) × (read_of s ≡ Ok t)) × (11 ≤ length fields))

  -- and then the whole trigger comes back out of the buffer
  abbrev pub ReadComesBack : Type 0
  ReadComesBack = (trigger_lent s fields).code ≡ 0 → read_of s ≡ Ok (trigger_back (trigger_lent s fields).out)

-- three tests that the numbers of a reading of a payload of so many bytes pass: at least eleven, an id not before place 3, user data that ends
-- where the payload does. Eleven zeros fail, and so does what a payload of another length left; what one of the same length left passes, and is
-- then answered by its places. So a host asks after a reading that was not refused
unfoldable pub can_be_read_by : ℕ → List ℕ → Bool
can_be_read_by size fields =
    leb 11 (length fields) && (leb 3 (get_or fields 2 0) && eqb (get_or fields 9 0 + get_or fields 10 0) size)

-- whether the trigger that comes back out of the numbers belongs to an application; numbers that cannot be this payload's belong to none
unfoldable pub belongs_lent : List ℕ → List ℕ → List ℕ → Bool
belongs_lent s fields id = can_be_read_by (length s) fields && belongs_of s (trigger_back fields) id

-- by the numbers as the reading left them it belongs as the trigger does
abbrev pub ByItsNumbers : List ℕ → List ℕ → List ℕ → Trigger → Type 0
ByItsNumbers s fields id t =
    read_of s ≡ Ok t → 11 ≤ length fields → belongs_lent s (trigger_lent s fields).out id ≡ belongs_of s t id
