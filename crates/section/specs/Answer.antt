-- The number and the values of a reading, in the two numbers of 64 bits that cross the boundary, and what is so of them. The second is for the rest
-- of an NRT-IT's key; of every other table it is 0.
use Rattle.std.specs.Prelude.{ℕ, ◌+◌, ◌-◌, ◌*◌, ◌/◌, ◌%◌, ◌^◌, ◌≡◌, List, ◌↔◌, length, eqb, if◌then◌else◌, Result, Ok, Err}
use Rattle.key.specs.Key.{nrt_it}
use Rattle.refusal.specs.Refusal.{number, number_of, refusal_of}
use Rattle.refusal.specs.declared.Refusal.{Refusal}
use Rattle.section.specs.Section.{read_of}
use Rattle.section.specs.declared.Header.{Header}

-- of a sound section the low 8 bits are 0; from bit 8 up stand table id 8 and extension 16, from bit 32 version 8, number 8 and
-- last 8. Where the body lies is the payload's to tell
abbrev pub sound_code : Header → ℕ
sound_code h = h.key.table * 2 ^ 8 + h.key.extension * 2 ^ 16 + h.version * 2 ^ 32 + h.number * 2 ^ 40 + h.last * 2 ^ 48

-- in the second number service_id 16 stands from bit 8 up, and time_span_start 32 from bit 24, so that the low 8 bits are 0
abbrev pub added_code : Header → ℕ
added_code h = h.key.service * 2 ^ 8 + h.key.start * 2 ^ 24

-- a refusal is its number alone, in both
abbrev pub reading_code : Result Header Refusal → ℕ
reading_code (Ok h) = sound_code h
reading_code (Err r) = number r

abbrev pub key_code : Result Header Refusal → ℕ
key_code (Ok h) = added_code h
key_code (Err r) = number r

-- what a host takes out of the two answers to a payload of so many bytes
abbrev pub reading_in : ℕ → ℕ → ℕ → Result Header Refusal
reading_in size code added =
    if eqb (code % 2 ^ 8) 0
    then Ok
    (record {
      key = record {
        table = code / 2 ^ 8 % 2 ^ 8;
        extension = code / 2 ^ 16 % 2 ^ 16;
        service = added / 2 ^ 8 % 2 ^ 16;
        start = added / 2 ^ 24;
      };
      version = code / 2 ^ 32 % 2 ^ 8;
      number = code / 2 ^ 40 % 2 ^ 8;
      last = code / 2 ^ 48;
      start = 8;
      length = size - 8;
    })
    else Err (refusal_of code)

-- Of the answers to a payload `s` of bytes:
-- each value comes back out of them
abbrev pub ComesBack : List ℕ → Type 0
ComesBack s = reading_in (length s) (reading_code (read_of s)) (key_code (read_of s)) ≡ read_of s

-- the low 8 bits of each are the number of the reading, 0 for none
abbrev pub ReadingNumber : List ℕ → Type 0
ReadingNumber s = (reading_code (read_of s) % 2 ^ 8 ≡ number_of (read_of s)) × (key_code (read_of s) % 2 ^ 8 ≡ number_of (read_of s))

-- where the table id in the first is another than the NRT-IT's the second is 0, so that a host need not ask for it
abbrev pub NothingAdded : List ℕ → Type 0
NothingAdded s = (h : Header) → read_of s ≡ Ok h → ¬ (h.key.table ≡ nrt_it) → key_code (read_of s) ≡ 0

-- so those of the first are 0 exactly when the section is sound
abbrev pub Accepted : List ℕ → Type 0
Accepted s = (reading_code (read_of s) % 2 ^ 8 ≡ 0) ↔ ((h : Header) × (read_of s ≡ Ok h))

-- a payload of the same length that has the same answers is read alike
abbrev pub ReadAlike : List ℕ → List ℕ → Type 0
ReadAlike s t =
    length s ≡ length t → reading_code (read_of s) ≡ reading_code (read_of t) → key_code (read_of s) ≡ key_code (read_of t) → read_of s ≡ read_of t
