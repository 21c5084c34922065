-- How text is written: over an output that may be too short for it, from a place on.
use Rattle.std.specs.Prelude.{ℕ, ◌+◌, ◌-◌, ◌^◌, ◌≡◌, List, [], ◌∷◌, ltb, set, if◌then◌else◌}

-- the place behind a byte. Places are numbers of 64 bits, so behind the highest there is none, and it stays
unfoldable pub next_place : ℕ → ℕ
next_place at = if ltb at (2 ^ 64 - 1) then at + 1 else at

-- the output with bytes over its own, one behind the other from a place on; past its end none stands. No output reaches the highest place, so
-- no byte is put over another of them
unfoldable pub over : List ℕ → ℕ → List ℕ → List ℕ
over out at [] = out
over out at (b ∷ bytes) = over (set out at b) (next_place at) bytes

-- the place behind them
unfoldable pub behind : ℕ → List ℕ → ℕ
behind at [] = at
behind at (b ∷ bytes) = behind (next_place at) bytes

-- some bytes were written over an output from a place on, and the place behind them was answered
pub record Wrote (bytes out : List ℕ) (at : ℕ) (after : List ℕ) (end : ℕ) : Type 0 where
  pub place : end ≡ behind at bytes
  pub leaves : after ≡ over out at bytes
