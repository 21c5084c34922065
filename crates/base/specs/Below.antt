-- Tests over the numbers below n.
use Rattle.std.specs.Prelude.{ℕ, zero, suc, Bool, true, false, ◌||◌, ◌&&◌, ltb, if◌then◌else◌}

-- some number below n passes
unfoldable pub some : ℕ → (ℕ → Bool) → Bool
some zero f = false
some (suc n) f = some n f || f n

-- every number below n passes
unfoldable pub every : ℕ → (ℕ → Bool) → Bool
every zero f = true
every (suc n) f = every n f && f n

-- the lowest number below n that passes, or n where none does
unfoldable pub lowest : ℕ → (ℕ → Bool) → ℕ
lowest zero f = zero
lowest (suc n) f = if ltb (lowest n f) n then lowest n f else (if f n then n else suc n)
