-- The bits of a number.
use Rattle.std.specs.Prelude.{ℕ, ◌/◌, ◌%◌, ◌^◌, Bool, eqb}

-- bit n of a number is 1
abbrev pub bit : ℕ → ℕ → Bool
bit mask n = eqb (mask / 2 ^ n % 2) 1
