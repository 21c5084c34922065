-- Document 01, "The shelf file": the numbers of a file. "Groups of seven bits, lowest group first, top bit set on every group but
-- the last, shortest form, at most 65,535", and number 11.
use Rattle.std.specs.Prelude.{ℕ, zero, suc, ◌+◌, ◌*◌, ◌/◌, ◌%◌, ◌<◌, List, [], ◌∷◌, ◌++◌, Bool, true, false, ◌||◌, ◌&&◌, length, get_or, drop, ltb, eqb, if◌then◌else◌, Result, Ok, Err}
use Rattle.refusal.specs.declared.Refusal.{Refusal}
use Rattle.refusal.specs.declared.Refusal.TheVariants.{BadNumber, OutputTooSmall}
use Rattle.base.specs.Choice.{Row, ◌if◌, first}
use Rattle.file_number.specs.declared.Number.{Number}

-- the largest number
abbrev pub largest : ℕ
largest = 65535

-- a number in groups, lowest first: the top bit says that another group follows, and at most `more` do
unfoldable pub spelling : ℕ → ℕ → List ℕ
spelling zero n = n ∷ []
spelling (suc more) n = if ltb n 128 then n ∷ [] else ((128 + n % 128) ∷ spelling more (n / 128))

-- how a number is written; 65,535 takes three groups
abbrev pub spelt : ℕ → List ℕ
spelt n = spelling 2 n

-- the groups at the front of some bytes: up to and with the first whose top bit is not set
unfoldable pub groups : List ℕ → List ℕ
groups [] = []
groups (b ∷ bs) = b ∷ (if ltb b 128 then [] else groups bs)

-- the number that groups say
unfoldable pub worth : List ℕ → ℕ
worth [] = 0
worth (b ∷ bs) = b % 128 + 128 * worth bs

-- cut off: the bytes end before a group whose top bit is not set
unfoldable pub cut_off : List ℕ → Bool
cut_off [] = true
cut_off (b ∷ bs) = if ltb b 128 then false else cut_off bs

-- the last group is 0
unfoldable pub last_is_zero : List ℕ → Bool
last_is_zero [] = false
last_is_zero (b ∷ bs) = if ltb b 128 then eqb b 0 else last_is_zero bs

-- not shortest: the last of several groups is 0, and without it the number is the same
abbrev pub not_shortest : List ℕ → Bool
not_shortest s = ltb 1 (length (groups s)) && last_is_zero s

-- 11: file number cut off, not shortest, or above 65,535
abbrev pub faults : List ℕ → List Row
faults s = BadNumber if (cut_off s || (not_shortest s || ltb largest (worth (groups s)))) ∷ []

-- a number and the place after it
abbrev pub numeral : ℕ → ℕ → Number
numeral value next = record { value = value; next = next }

-- the number at the front of bytes that begin at a place of the file, and the place after it
unfoldable pub number_in : List ℕ → ℕ → Result Number Refusal
number_in s at = first Err (faults s) (Ok (numeral (worth (groups s)) (at + length (groups s))))

-- the number at a place of the file
abbrev pub number_at : List ℕ → ℕ → Result Number Refusal
number_at file at = number_in (drop at file) at

-- what writing leaves: the answer and the output
pub record Writing : Type 0 where
  pub said : Result ℕ Refusal
  pub out : List ℕ

abbrev pub writing : Result ℕ Refusal → List ℕ → Writing
writing said out = record { said = said; out = out }

-- a number written at the front of the output, whose bytes past it stay as they were; 15 where it does not fit
unfoldable pub written_of : ℕ → List ℕ → Writing
written_of n out =
    first (λ r. writing (Err r) out)
    (OutputTooSmall if ltb (length out) (length (spelt n)) ∷ [])
    (writing (Ok (length (spelt n))) (spelt n ++ drop (length (spelt n)) out))

-- each is a byte
abbrev pub Bytes : List ℕ → Type 0
Bytes s = (k : ℕ) → get_or s k 0 < 256
