-- An answer as one number, which is what crosses the boundary: a refusal has its number, below 2 ^ 8; what is accepted has 0 in
-- the low 8 bits and its values above them.
use Rattle.std.specs.Prelude.{ℕ, ◌*◌, ◌%◌, ◌^◌, Result, Ok, Err}
use Rattle.refusal.specs.Refusal.{number}
use Rattle.refusal.specs.declared.Refusal.{Refusal}
use Rattle.clock_rule.specs.declared.State.{State}
use Rattle.clock_rule.specs.Numbers.{column_of}
use Rattle.clock.specs.declared.Heard.{Heard}

-- from bit 8: 1 applied, 2 waiting
abbrev pub heard_code : Result Heard Refusal → ℕ
heard_code (Ok Heard.Applied) = 1 * 2 ^ 8
heard_code (Ok Heard.Waiting) = 2 * 2 ^ 8
heard_code (Err r) = number r

-- from bit 8: how many were applied
abbrev pub moved_code : Result ℕ Refusal → ℕ
moved_code (Ok n) = n * 2 ^ 8
moved_code (Err r) = number r

-- from bit 32: the time
abbrev pub time_code : Result ℕ Refusal → ℕ
time_code (Ok t) = t * 2 ^ 32
time_code (Err r) = number r

-- from bit 8: the state, 0 to 3 in document 01's order
abbrev pub state_code : Result State Refusal → ℕ
state_code (Ok s) = column_of s * 2 ^ 8
state_code (Err r) = number r

-- the refusal that an answer bears, 0 for none
abbrev pub refusal_of : ℕ → ℕ
refusal_of code = code % 2 ^ 8
