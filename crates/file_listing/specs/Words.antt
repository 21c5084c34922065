-- Text as bytes: words, and decimal numbers without leading zeros.
use Rattle.std.specs.Prelude.{ℕ, zero, suc, ◌+◌, ◌/◌, ◌%◌, ◌^◌, List, [], ◌∷◌, ◌++◌, leb, if◌then◌else◌}
use Prim.Native.Char.{code}
use Prim.Native.String as string
use Prim.Native.String.{String}

-- a word's letters, as ASCII has them
abbrev pub ascii : String → List ℕ
ascii string.[] = []
ascii (string.◌∷◌ c s) = code c ∷ ascii s

-- the digit of a power of ten, where the number reaches it
unfoldable pub place : ℕ → ℕ → List ℕ
place power n = if leb power n then (48 + n / power % 10) ∷ [] else []

-- the digits of the powers of ten from 10 ^ k down to 10, each where the number reaches it
unfoldable pub places : ℕ → ℕ → List ℕ
places zero n = []
places (suc k) n = place (10 ^ suc k) n ++ places k n

-- a number of up to k + 1 digits
abbrev pub digits : ℕ → ℕ → List ℕ
digits k n = places k n ++ ((48 + n % 10) ∷ [])

-- a number up to 65,535
unfoldable pub decimal : ℕ → List ℕ
decimal n = digits 4 n

-- one up to 4,294,967,295
unfoldable pub long_decimal : ℕ → List ℕ
long_decimal n = digits 9 n

-- the end of a line
abbrev pub newline : List ℕ
newline = 10 ∷ []

-- the lines for the numbers below n, rising
unfoldable pub lines : ℕ → (ℕ → List ℕ) → List ℕ
lines zero line = []
lines (suc n) line = lines n line ++ line n

-- a word and a number
abbrev pub field : String → ℕ → List ℕ
field word n = ascii word ++ decimal n
