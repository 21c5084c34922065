-- A table of refusals in which a number may stand more than once.
use Rattle.base.specs.Choice.{If◌then◌else◌}
use Rattle.std.specs.Prelude.{ℕ, List, [], ◌∷◌, Bool, true, not, ◌&&◌, ◌⊎◌, eqb, if◌then◌else◌}
use Rattle.base.specs.Tables.{Rule}

-- a row of that number holds, and no row above it does
abbrev pub Given : ℕ → List Rule → Type 0
Given n [] = ⊥
Given n (w ∷ ws) = If eqb w.no n then (w.holds ⊎ (¬ w.holds × Given n ws)) else (¬ w.holds × Given n ws)

-- no row has that number; one row at most has it
abbrev pub lacks : ℕ → List Rule → Bool
lacks n [] = true
lacks n (w ∷ ws) = not (eqb w.no n) && lacks n ws

abbrev pub alone : ℕ → List Rule → Bool
alone n [] = true
alone n (w ∷ ws) = if eqb w.no n then lacks n ws else alone n ws
