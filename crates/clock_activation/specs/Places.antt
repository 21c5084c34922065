-- What a place holds, in two words: the time; event + 2 ^ 16 application + 2 ^ 24 action + 2 ^ 26 applied.
use Rattle.std.specs.Prelude.{ℕ, ◌+◌, ◌*◌, ◌/◌, ◌%◌, ◌^◌, Bool, eqb, if◌then◌else◌}
use Rattle.clock_rule.specs.Numbers.{row_of, action_no}
use Rattle.clock_activation.specs.declared.Held.{Held}

-- what two words hold
unfoldable pub held_in : ℕ → ℕ → Held
held_in time w =
    record {
      activation = record { application = w / 2 ^ 16 % 2 ^ 8; event = w % 2 ^ 16; action = action_no (w / 2 ^ 24 % 4); time = time };
      applied = eqb (w / 2 ^ 26 % 2) 1;
    }

abbrev pub bit_of : Bool → ℕ
bit_of b = if b then 1 else 0

-- the second word of what is held
unfoldable pub mark_of : Held → ℕ
mark_of h =
    h.activation.event + h.activation.application * 2 ^ 16
    + row_of h.activation.action * 2 ^ 24 + bit_of h.applied * 2 ^ 26
