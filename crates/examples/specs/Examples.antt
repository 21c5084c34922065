-- Document 01, "Examples, P marked for proof": each with what it must mean.
use Rattle.std.specs.Prelude.{ℕ, ◌≡◌, List, [], ◌∷◌, Result, Ok, Err}
use Rattle.refusal.specs.declared.Refusal.{Refusal}
use Rattle.refusal.specs.declared.Refusal.TheVariants.{PayloadShort, WrongIndicator, LongerThanPayload, ShorterThanPayload, NumberAboveLast, LastAbove15, NotCurrent, BadNumber, TriggerForbiddenIdLength}
use Rattle.base.specs.Bytes.{part}
use Rattle.section.specs.Section.{read_of as sectionReading}
use Rattle.section.specs.declared.Header.{Header}
use Rattle.trigger.specs.Trigger.{read_of as triggerReading}
use Rattle.trigger.specs.declared.Extent.{Extent}
use Rattle.trigger.specs.declared.Target.{Target}
use Rattle.trigger.specs.declared.Trigger.{Trigger}
use Rattle.file_number.specs.Number.{spelt, numeral, number_at}
use Rattle.file_number.specs.declared.Number.{Number}

-- a payload and its reading as a section; a payload, its reading as a trigger and its user data; a number and how it is
-- written; the bytes of a file and the number that they begin with
pub data Case : Type 0 where
  section : List ℕ → Result Header Refusal → Case
  trigger : List ℕ → Result Trigger Refusal → Case
  user : List ℕ → Extent → List ℕ → Case
  written : ℕ → List ℕ → Case
  number : List ℕ → Result Number Refusal → Case

-- the case holds of the definitions that the code is proved to meet
abbrev pub Holds : Case → Type 0
Holds (Case.section s r) = sectionReading s ≡ r
Holds (Case.trigger s r) = triggerReading s ≡ r
Holds (Case.user s e bytes) = part s e.place e.length ≡ bytes
Holds (Case.written n bytes) = spelt n ≡ bytes
Holds (Case.number s r) = number_at s 0 ≡ r

abbrev pub AllHold : List Case → Type 0
AllHold [] = Unit {0}
AllHold (c ∷ cs) = Holds c × AllHold cs

-- C9 70 05 12 34, a byte with version 3 and current/next, section number, last section number
abbrev header : ℕ → ℕ → ℕ → ℕ → ℕ → List ℕ
header indicators length current n last =
    0xC9 ∷ indicators ∷ length ∷ 0x12 ∷ 0x34 ∷ current ∷ n ∷ last ∷ []

abbrev sound : ℕ → Result Header Refusal
sound last =
    Ok
    (record { key = record { table = 0xC9; extension = 0x1234; service = 0; start = 0 }; version = 3; number = 0; last = last; start = 8; length = 0 })

-- the trigger of P10
abbrev tapped : List ℕ
tapped = 0 ∷ 0 ∷ 2 ∷ 0 ∷ 1 ∷ 2 ∷ 0 ∷ 2 ∷ 0 ∷ 0x17 ∷ 0 ∷ 1 ∷ 0x41 ∷ []

abbrev extent : ℕ → ℕ → Extent
extent place length = record { place = place; length = length }

abbrev pub examples : List Case
examples =
    -- P1: sound, version 3
    Case.section (header 0x70 5 0xC7 0 0) (sound 0)
    -- P2: less one byte, refused 1
    ∷ Case.section (0xC9 ∷ 0x70 ∷ 5 ∷ 0x12 ∷ 0x34 ∷ 0xC7 ∷ 0 ∷ []) (Err PayloadShort)
    -- P3: refused 4
    ∷ Case.section (header 0x70 6 0xC7 0 0) (Err LongerThanPayload)
    -- P4: P1 with one byte more, refused 5
    ∷ Case.section (0xC9 ∷ 0x70 ∷ 5 ∷ 0x12 ∷ 0x34 ∷ 0xC7 ∷ 0 ∷ 0 ∷ 0 ∷ []) (Err ShorterThanPayload)
    -- P5: refused 2
    ∷ Case.section (header 0xF0 5 0xC7 0 0) (Err WrongIndicator)
    -- P6: refused 8
    ∷ Case.section (header 0x70 5 0xC6 0 0) (Err NotCurrent)
    -- P7: refused 6
    ∷ Case.section (header 0x70 5 0xC7 1 0) (Err NumberAboveLast)
    -- P8: refused 7; with 0F sound
    ∷ Case.section (header 0x70 5 0xC7 0 0x10) (Err LastAbove15)
    ∷ Case.section (header 0x70 5 0xC7 0 0x0F) (sound 0x0F)
    -- P9: no application, no target, no data
    ∷ Case.trigger
    (0 ∷ 0 ∷ 0 ∷ 0 ∷ 0 ∷ 0 ∷ 0 ∷ 0 ∷ [])
    (Ok
    (record { idlength = 0; description = 0; id = extent 3 0; target = Target.None; user = extent 8 0 }))
    -- P10: tap 23, data 41
    ∷ Case.trigger
    tapped
    (Ok
    (record { idlength = 2; description = 1; id = extent 5 0; target = Target.Tap 23; user = extent 12 1 }))
    ∷ Case.user tapped (extent 12 1) (0x41 ∷ [])
    -- P11: refused 22
    ∷ Case.trigger (0 ∷ 0 ∷ 1 ∷ 0 ∷ 0 ∷ 0 ∷ 0 ∷ 0 ∷ []) (Err TriggerForbiddenIdLength)
    -- P12: number 128 is 80 01; 80 00 is refused 11
    ∷ Case.written 128 (0x80 ∷ 0x01 ∷ [])
    ∷ Case.number (0x80 ∷ 0x01 ∷ []) (Ok (numeral 128 2))
    ∷ Case.number (0x80 ∷ 0x00 ∷ []) (Err BadNumber)
    ∷ []
