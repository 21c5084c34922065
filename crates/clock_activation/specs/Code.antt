-- A number for an activation, by which the code compares two: its time, application and event as digits.
use Rattle.std.specs.Prelude.{ℕ, ◌+◌, ◌*◌, ◌<◌, ◌≡◌}
use Rattle.clock_activation.specs.declared.Activation.{Activation}

unfoldable pub code_of : Activation → ℕ
code_of a = (a.time * 256 + a.application) * 65536 + a.event

-- the application and the event are digits
pub record Narrow (a : Activation) : Type 0 where
  pub application : a.application < 256
  pub event : a.event < 65536

pub record Coded (a : Activation) (r : ℕ) : Type 0 where
  pub is : r ≡ code_of a
  pub narrow : Narrow a
  pub fits : r < 72057594037927936
