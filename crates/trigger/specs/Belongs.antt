-- Document 01, "A trigger": a trigger belongs to an application exactly when the id length is 0 or the id bytes equal the
-- application's (001, clause 9.1).
use Rattle.std.specs.Prelude.{ℕ, ◌+◌, List, Bool, ◌&&◌, ◌||◌, length, leb, eqb}
use Rattle.base.specs.Bytes.{part, same}
use Rattle.trigger.specs.declared.Trigger.{Trigger}

-- the n bytes from a place lie in the payload, and are an id
unfoldable pub is_id : List ℕ → ℕ → ℕ → List ℕ → Bool
is_id s place n id = leb (place + n) (length s) && same (part s place n) id

-- a trigger, with the payload that it was read from, belongs to the application with an id
unfoldable pub belongs_of : List ℕ → Trigger → List ℕ → Bool
belongs_of s t id = eqb t.idlength 0 || is_id s t.id.place t.id.length id
