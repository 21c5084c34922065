-- Bytes, 16-bit numbers and parts of a list of bytes.
use Rattle.std.specs.Prelude.{ℕ, ◌+◌, ◌*◌, List, Bool, ◌&&◌, length, get_or, take, drop, replicate, eqb}
use Rattle.base.specs.Below.{every}

-- the byte at a place
abbrev pub byte : List ℕ → ℕ → ℕ
byte s at = get_or s at 0

-- the 16-bit number at a place, high byte first
abbrev pub word : List ℕ → ℕ → ℕ
word s at = byte s at * 256 + byte s (at + 1)

-- the n bytes from a place
abbrev pub part : List ℕ → ℕ → ℕ → List ℕ
part s at n = take n (drop at s)

-- n zero bytes
unfoldable pub zeros : ℕ → List ℕ
zeros n = replicate n 0

-- the same bytes throughout
unfoldable pub same : List ℕ → List ℕ → Bool
same a b = eqb (length a) (length b) && every (length a) (λ k. eqb (byte a k) (byte b k))
