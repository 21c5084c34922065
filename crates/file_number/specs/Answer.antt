-- The number and the values of the answers to reading and writing a number.
use Rattle.std.specs.Prelude.{ℕ, ◌+◌, ◌*◌, ◌/◌, ◌%◌, ◌≡◌, List, [], ◌∷◌, eqb, if◌then◌else◌, Result, Ok, Err}
use Rattle.refusal.specs.Refusal.{number, refusal_of}
use Rattle.refusal.specs.declared.Refusal.{Refusal}
use Rattle.answers.specs.Answers.{Told, told}
use Rattle.file_number.specs.Number.{number_at, numeral, Bytes}
use Rattle.file_number.specs.declared.Number.{Number}

-- the number, and the place after it
abbrev pub number_told : Result Number Refusal → Told
number_told (Ok found) = told 0 (found.value ∷ found.next ∷ [])
number_told (Err r) = told (number r) []

-- of a number at the front of some bytes, as it crosses the boundary: low 8 bits the refusal, 8 to 23 the number, 24 to 31 how many bytes it takes
abbrev pub number_code : Result Number Refusal → ℕ
number_code (Ok found) = 256 * found.value + 16777216 * found.next
number_code (Err r) = number r

-- what a host takes out of it
abbrev pub number_back : ℕ → Result Number Refusal
number_back code =
    if eqb (code % 256) 0 then Ok (numeral (code / 256 % 65536) (code / 16777216))
    else Err (refusal_of code)

-- of the number at the front of some bytes: the place after it is how many bytes it takes
abbrev pub number_lent : List ℕ → ℕ
number_lent bytes = number_code (number_at bytes 0)

-- how many bytes now stand at the front of the output
abbrev pub spelled_told : Result ℕ Refusal → Told
spelled_told (Ok n) = told 0 (n ∷ [])
spelled_told (Err r) = told (number r) []

-- the number that crosses the boundary loses nothing
abbrev pub NumberBack : Type 0
NumberBack = (bytes : List ℕ) → Bytes bytes → number_back (number_lent bytes) ≡ number_at bytes 0

-- number and values lose nothing, of a reading and of a writing
abbrev pub NumberTold : Type 0
NumberTold = (x y : Result Number Refusal) → number_told x ≡ number_told y → x ≡ y

abbrev pub SpelledTold : Type 0
SpelledTold = (x y : Result ℕ Refusal) → spelled_told x ≡ spelled_told y → x ≡ y
