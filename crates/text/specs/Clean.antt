-- Text that can disturb no terminal.
use Rattle.std.specs.Prelude.{ℕ, ◌<◌, ◌≤◌, ◌≡◌, List, ◌⊎◌, length}
use Rattle.base.specs.Bytes.{byte}

-- each byte ends a line, or is from 32 to 126
abbrev pub Clean : List ℕ → Type 0
Clean t = (k : ℕ) → k < length t → (byte t k ≡ 10) ⊎ ((32 ≤ byte t k) × (byte t k ≤ 126))
