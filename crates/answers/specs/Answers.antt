-- What a call over numbers that a host lends leaves; its answer is a number whose low 8 bits are the refusal.
use Rattle.std.specs.Prelude.{ℕ, ◌*◌, ◌/◌, ◌%◌, ◌^◌, ◌≡◌, List, [], ◌∷◌, ◌++◌, not, ◌↔◌, ltb, eqb, length, drop, if◌then◌else◌, Result, Ok, Err}
use Rattle.refusal.specs.Refusal.{number, number_of}
use Rattle.refusal.specs.declared.Refusal.{Refusal}
use Rattle.refusal.specs.declared.Refusal.TheVariants.{OutputTooSmall}

-- what a call that may change a shelf leaves: the answer, the record's numbers, the store
pub record Lent : Type 0 where
  pub code : ℕ
  pub words : List ℕ
  pub store : List ℕ

abbrev pub lent : ℕ → List ℕ → List ℕ → Lent
lent code words store = record { code = code; words = words; store = store }

-- what a call that fills an output leaves: the answer and the output
pub record Out : Type 0 where
  pub code : ℕ
  pub out : List ℕ

abbrev pub out : ℕ → List ℕ → Out
out code bytes = record { code = code; out = bytes }

-- the number of refusal of an answer, 0 for none, and its values
pub record Told : Type 0 where
  pub number : ℕ
  pub values : List ℕ

abbrev pub told : ℕ → List ℕ → Told
told number values = record { number = number; values = values }

-- an answer's values at the front of a lent buffer, which stays as it was past them; its own refusal, or 15 where they do not fit
abbrev pub puts : Told → List ℕ → Out
puts t old =
    if not (eqb t.number 0)
    then out t.number old
    else (if ltb (length old) (length t.values)
    then out (number OutputTooSmall) old
    else out 0 (t.values ++ drop (length t.values) old))

-- the number of refusal in an answer, 0 for none
abbrev pub refusal_in : ℕ → ℕ
refusal_in code = code % 2 ^ 8

-- such a call answers from bit 8 up how many bytes now stand at the output's front, in 16 bits: no section, file or listing has
-- more than 65,535
abbrev pub size_code : ℕ → ℕ
size_code n = 256 * (n % 65536)

-- what a call answers that was done, and one that filled an output with so many bytes; the refusal alone where it was refused
abbrev pub done : {A : Type 0} → Result A Refusal → ℕ
done = number_of

abbrev pub sized : Result ℕ Refusal → ℕ
sized (Ok n) = size_code n
sized (Err r) = number r

-- the size in an answer
abbrev pub size_in : ℕ → ℕ
size_in code = code / 2 ^ 8

-- what a host takes out of such an answer: a size, or a refusal
abbrev pub size_or : {A : Type 0} → (ℕ → A) → (ℕ → A) → ℕ → A
size_or bytes refused code = if eqb (refusal_in code) 0 then bytes (size_in code) else refused code

-- some bytes at the front of an output, which stays as it was past them
abbrev pub filled : List ℕ → List ℕ → Out
filled bytes old = out (size_code (length bytes)) (bytes ++ drop (length bytes) old)

-- The laws of a call that fills an output with some bytes, or is refused:
pub record Fills (bytes old : List ℕ) (left : Out) : Type 0 where
  -- a refused call leaves the output as it was
  pub untouched : ¬ (refusal_in left.code ≡ 0) → left.out ≡ old
  -- the low 8 bits are 0 exactly when the call is accepted, and the bytes stand there
  pub accepted : (refusal_in left.code ≡ 0) ↔ (left ≡ filled bytes old)
  -- the size comes back out of the answer
  pub size : refusal_in left.code ≡ 0 → size_in left.code ≡ length bytes
