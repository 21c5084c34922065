-- The clock's numbers.
use Rattle.std.specs.Prelude.{ℕ}

-- activations held at most, waiting and remembered together
abbrev pub most_held : ℕ
most_held = 32

-- milliseconds before the clock that an applied activation is remembered
abbrev pub memory : ℕ
memory = 60000
