-- What is proved of a reading, in words of the payload `s`, and the words for it: each statement is a theorem of `proofs/` by the same name in small letters.
use Rattle.std.specs.Prelude.{ℕ, ◌-◌, ◌/◌, ◌%◌, ◌^◌, ◌<◌, ◌≤◌, ◌≡◌, List, [], ◌∷◌, ◌↔◌, ◌⊎◌, length, Result, Ok, Err}
use Rattle.base.specs.Bytes.{byte}
use Rattle.base.specs.Octets.{Octets}
use Rattle.base.specs.Tables.{Rule, ◌says◌, None, above}
use Rattle.key.specs.Key.{nrt_it}
use Rattle.key.specs.declared.Key.{Key}
use Rattle.section.specs.Section.{table_id, table_id_extension, service_id, time_span_start, key_in, syntax_indicator, private_indicator, section_length, section_size, section_number, last_section_number, current_next}
use Rattle.refusal.specs.Refusal.{number, number_of}
use Rattle.refusal.specs.declared.Refusal.{Refusal}
use Rattle.section.specs.Section.{header_of, read_of}
use Rattle.section.specs.declared.Header.{Header}

-- what a sound reading says of its header and its payload
pub record SoundFacts (s : List ℕ) (h : Header) : Type 0 where
  pub header : h ≡ header_of s
  pub size : section_size s ≡ length s
  pub least : 8 ≤ length s
  pub most : length s ≤ 1024
  pub start : h.start ≡ 8
  pub body : h.length ≡ length s - 8
  pub number : h.number ≤ h.last
  pub last : h.last ≤ 15
  pub version : h.version < 32
  pub holds_key : h.key.table ≡ nrt_it → 14 ≤ length s
  pub none : number_of (read_of s) ≡ 0

-- two payloads that differ at most in reserved bits
-- Byte 1 has two indicators above its reserved bits and four bits of the section length below them. Byte 5 has its reserved
-- bits on top and six bits below: version and current/next.
pub record SameButReserved (s t : List ℕ) : Type 0 where
  pub size : length s ≡ length t
  pub elsewhere : (k : ℕ) → ¬ (k ≡ 1) → ¬ (k ≡ 5) → byte s k ≡ byte t k
  pub above_reserved : byte s 1 / 64 ≡ byte t 1 / 64
  pub below_reserved : byte s 1 % 16 ≡ byte t 1 % 16
  pub version_and_current : byte s 5 % 64 ≡ byte t 5 % 64

-- a section's own numbers
abbrev pub OwnNumber : ℕ → Type 0
OwnNumber n = ((1 ≤ n) × (n ≤ 8)) ⊎ (n ≡ 46)

-- the numbers of a key fit their bits
pub record FitsKey (key : Key) : Type 0 where
  pub table : key.table < 2 ^ 8
  pub extension : key.extension < 2 ^ 16
  pub service : key.service < 2 ^ 16
  pub start : key.start < 2 ^ 32

module _ (s : List ℕ) where
  -- payload under 8 bytes
  abbrev pub PayloadShort : Type 0
  PayloadShort = length s < 8

  -- syntax indicator 1 or private indicator 0
  abbrev pub WrongIndicator : Type 0
  WrongIndicator = (syntax_indicator s ≡ 1) ⊎ (private_indicator s ≡ 0)

  -- section length under 5 or over 1,021
  abbrev pub LengthOutOfRange : Type 0
  LengthOutOfRange = (section_length s < 5) ⊎ (1021 < section_length s)

  -- section longer than its payload
  abbrev pub LongerThanPayload : Type 0
  LongerThanPayload = length s < section_size s

  -- section shorter than its payload
  abbrev pub ShorterThanPayload : Type 0
  ShorterThanPayload = section_size s < length s

  -- section number above last
  abbrev pub NumberAboveLast : Type 0
  NumberAboveLast = last_section_number s < section_number s

  -- last number above 15
  abbrev pub LastAbove15 : Type 0
  LastAbove15 = 15 < last_section_number s

  -- current/next is 0
  abbrev pub NotCurrent : Type 0
  NotCurrent = current_next s ≡ 0

  -- an NRT-IT too short to hold its key
  abbrev pub KeyShort : Type 0
  KeyShort = (table_id s ≡ nrt_it) × (length s < 14)

  abbrev pub table : List Rule
  table =
      1 says PayloadShort
      ∷ 2 says WrongIndicator
      ∷ 3 says LengthOutOfRange
      ∷ 4 says LongerThanPayload
      ∷ 5 says ShorterThanPayload
      ∷ 6 says NumberAboveLast
      ∷ 7 says LastAbove15
      ∷ 8 says NotCurrent
      ∷ 46 says KeyShort
      ∷ []

  abbrev pub NoneBefore : ℕ → Type 0
  NoneBefore n = None (above n table)

  -- each number is given exactly when its words are so and those of no number before it are
  abbrev pub Refused1 : Type 0
  Refused1 = (number_of (read_of s) ≡ 1) ↔ PayloadShort

  abbrev pub Refused2 : Type 0
  Refused2 = (number_of (read_of s) ≡ 2) ↔ (NoneBefore 2 × WrongIndicator)

  abbrev pub Refused3 : Type 0
  Refused3 = (number_of (read_of s) ≡ 3) ↔ (NoneBefore 3 × LengthOutOfRange)

  abbrev pub Refused4 : Type 0
  Refused4 = (number_of (read_of s) ≡ 4) ↔ (NoneBefore 4 × LongerThanPayload)

  abbrev pub Refused5 : Type 0
  Refused5 = (number_of (read_of s) ≡ 5) ↔ (NoneBefore 5 × ShorterThanPayload)

  abbrev pub Refused6 : Type 0
  Refused6 = (number_of (read_of s) ≡ 6) ↔ (NoneBefore 6 × NumberAboveLast)

  abbrev pub Refused7 : Type 0
  Refused7 = (number_of (read_of s) ≡ 7) ↔ (NoneBefore 7 × LastAbove15)

  abbrev pub Refused8 : Type 0
  Refused8 = (number_of (read_of s) ≡ 8) ↔ (NoneBefore 8 × NotCurrent)

  abbrev pub Refused46 : Type 0
  Refused46 = (number_of (read_of s) ≡ 46) ↔ (NoneBefore 46 × KeyShort)

  -- no number is given exactly when none is so
  abbrev pub NotRefused : Type 0
  NotRefused = (number_of (read_of s) ≡ 0) ↔ None table

  -- a header is read exactly when none is so and it is what the bytes say
  abbrev pub SoundExactly : Type 0
  SoundExactly = (h : Header) → (read_of s ≡ Ok h) ↔ (None table × (h ≡ header_of s))

  -- no number but 1 to 8 and 46 is given
  abbrev pub RefusedRange : Type 0
  RefusedRange = (r : Refusal) → read_of s ≡ Err r → OwnNumber (number r)

  -- of bytes, the table id is a byte, extension and service_id are 16-bit numbers and time_span_start is one of 32
  abbrev pub SoundFits : Type 0
  SoundFits = (h : Header) → read_of s ≡ Ok h → Octets s → FitsKey h.key

  -- two answers that keep the promise of `section::read` are equal
  abbrev pub Unique : Type 0
  Unique = (x y : Result Header Refusal) → x ≡ read_of s → y ≡ read_of s → x ≡ y

-- Two sections, the bytes of which may be any, are of one table: NRT-ITs where extension, service_id and time_span_start are the same, and one of
-- another id where table id and extension are, whatever stands in the bodies
abbrev pub ListsToldApart : List ℕ → List ℕ → Type 0
ListsToldApart s t =
    table_id s ≡ nrt_it → table_id t ≡ nrt_it
    → (key_in s ≡ key_in t)
    ↔ ((table_id_extension s ≡ table_id_extension t) × (service_id s ≡ service_id t) × (time_span_start s ≡ time_span_start t))

abbrev pub OthersToldApart : List ℕ → List ℕ → Type 0
OthersToldApart s t =
    ¬ (table_id s ≡ nrt_it) → (key_in s ≡ key_in t) ↔ ((table_id s ≡ table_id t) × (table_id_extension s ≡ table_id_extension t))

-- reserved bits are disregarded
abbrev pub Disregarded : List ℕ → List ℕ → Type 0
Disregarded s t = SameButReserved s t → read_of s ≡ read_of t
