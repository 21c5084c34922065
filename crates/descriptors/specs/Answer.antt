-- The number and the values of a step, in the one number of 64 bits that crosses the boundary, and what is so of it.
use Rattle.std.specs.Prelude.{ℕ, ◌+◌, ◌-◌, ◌*◌, ◌/◌, ◌%◌, ◌^◌, ◌<◌, ◌≡◌, List, ◌↔◌, length, eqb, if◌then◌else◌, Ok, Err, Some, None}
use Rattle.refusal.specs.Refusal.{number, refusal_of}
use Rattle.refusal.specs.declared.Refusal.TheVariants.{DescriptorRunsPast}
use Rattle.descriptors.specs.declared.Descriptor.{Descriptor}
use Rattle.descriptors.specs.Loop.{Step, step_of}

-- from bit 8 up: kind 8, tag 8, the next place 40. A descriptor is kind 1; its content starts two bytes behind the place
-- asked and ends at the next place. Of a place of 2 ^ 40 or more the answer has the low 40 bits
abbrev pub descriptor_code : Descriptor → ℕ
descriptor_code d = 1 * 2 ^ 8 + d.tag * 2 ^ 16 + d.next % 2 ^ 40 * 2 ^ 24

-- the end of a walk is kind 2; a refusal is its number alone
abbrev pub step_code : Step → ℕ
step_code (Ok (Some d)) = descriptor_code d
step_code (Ok None) = 2 * 2 ^ 8
step_code (Err r) = number r

-- the content's length in the answer to a step at a place: what lies between there and the next place, which 8 bits tell
abbrev pub length_in : ℕ → ℕ → ℕ
length_in at code = (code / 2 ^ 24 + (2 ^ 8 - (at + 2) % 2 ^ 8)) % 2 ^ 8

-- what a host takes out of the answer to a step at a place
abbrev pub step_in : ℕ → ℕ → Step
step_in at code =
    if eqb (code % 2 ^ 8) 0
    then
    if eqb (code / 2 ^ 8 % 2 ^ 8) 2
    then Ok None
    else Ok (Some
    (record { tag = code / 2 ^ 16 % 2 ^ 8; start = at + 2; length = length_in at code; next = at + 2 + length_in at code }))
    else Err (refusal_of code)

-- Of the answer to a step at a place of a loop `s` of bytes:
-- each value comes back out of it, however long the loop
abbrev pub ComesBack : List ℕ → ℕ → Type 0
ComesBack s at = step_in at (step_code (step_of s at)) ≡ step_of s at

-- in a loop below 2 ^ 40 bytes the next place stands in it as it is
abbrev pub NextStands : List ℕ → ℕ → Type 0
NextStands s at = length s < 2 ^ 40 → (d : Descriptor) → step_of s at ≡ Ok (Some d) → step_code (step_of s at) / 2 ^ 24 ≡ d.next

-- its low 8 bits are 0 exactly when the step is not refused
abbrev pub Accepted : List ℕ → ℕ → Type 0
Accepted s at = (step_code (step_of s at) % 2 ^ 8 ≡ 0) ↔ (¬ (step_of s at ≡ Err DescriptorRunsPast))

-- two loops with one answer at a place have one step there
abbrev pub StepAlike : List ℕ → List ℕ → ℕ → Type 0
StepAlike s t at = step_code (step_of s at) ≡ step_code (step_of t at) → step_of s at ≡ step_of t at
