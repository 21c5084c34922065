-- Document 01, "Numbers of refusal", and document 02, which adds 40 to 46 and 59; 255 is the boundary's own.
use Rattle.std.specs.Prelude.{ℕ, ◌≡◌, ◌<◌, List, [], ◌∷◌, Result, Ok, Err, eqb, if◌then◌else◌}
use Rattle.refusal.specs.declared.Refusal.{Refusal}
use Rattle.refusal.specs.declared.Refusal.TheVariants.{PayloadShort, WrongIndicator, LengthOutOfRange, LongerThanPayload, ShorterThanPayload, NumberAboveLast, LastAbove15, NotCurrent, NoFreePlace, Differs, BadNumber, BadFile, KeyHeld, TableNotHeld, OutputTooSmall, SectionNotHeld, StoreSize, ShelfSpoiled, DescriptorRunsPast, TriggerCutOff, TriggerOtherEvent, TriggerForbiddenIdLength, TriggerWrongTargetLength, TriggerHighUriByte, TriggerBytesLeft, TriggerTooLong, ClockAbove, ClockMovedBack, ClockPast, ClockAlreadyHeld, ClockFull, ClockSpoiled, WriterBodyTooLong, WriterVersionAbove31, WriterKAboveLast, ProgrammePassesEnd, ProgrammeBytesLeft, ProgrammeOtherTable, KeyShort, AskedForNrtIt, NoSuchAction}

-- the number of each
abbrev pub number : Refusal → ℕ
number PayloadShort = 1
number WrongIndicator = 2
number LengthOutOfRange = 3
number LongerThanPayload = 4
number ShorterThanPayload = 5
number NumberAboveLast = 6
number LastAbove15 = 7
number NotCurrent = 8
number NoFreePlace = 9
number Differs = 10
number BadNumber = 11
number BadFile = 12
number KeyHeld = 13
number TableNotHeld = 14
number OutputTooSmall = 15
number SectionNotHeld = 16
number StoreSize = 17
number ShelfSpoiled = 18
number DescriptorRunsPast = 19
number TriggerCutOff = 20
number TriggerOtherEvent = 21
number TriggerForbiddenIdLength = 22
number TriggerWrongTargetLength = 23
number TriggerHighUriByte = 24
number TriggerBytesLeft = 25
number TriggerTooLong = 26
number ClockAbove = 30
number ClockMovedBack = 31
number ClockPast = 32
number ClockAlreadyHeld = 33
number ClockFull = 34
number ClockSpoiled = 35
number WriterBodyTooLong = 40
number WriterVersionAbove31 = 41
number WriterKAboveLast = 42
number ProgrammePassesEnd = 43
number ProgrammeBytesLeft = 44
number ProgrammeOtherTable = 45
number KeyShort = 46
number AskedForNrtIt = 59
number NoSuchAction = 255

-- what a refusal is as a byte
abbrev pub Numbered : Refusal → ℕ → Type 0
Numbered r n = n ≡ number r

-- every number stands in 8 bits and is not 0, and no two refusals have one
abbrev pub InByte : Type 0
InByte = (r : Refusal) → (0 < number r) × (number r < 256)

abbrev pub Once : Type 0
Once = (a b : Refusal) → number a ≡ number b → a ≡ b

-- the paper's number for each case of an answer that may be refused; 0 for none
abbrev pub number_of : {A : Type 0} → Result A Refusal → ℕ
number_of (Ok a) = 0
number_of (Err r) = number r

-- all of them
abbrev pub all : List Refusal
all =
    PayloadShort
    ∷ WrongIndicator
    ∷ LengthOutOfRange
    ∷ LongerThanPayload
    ∷ ShorterThanPayload
    ∷ NumberAboveLast
    ∷ LastAbove15
    ∷ NotCurrent
    ∷ NoFreePlace
    ∷ Differs
    ∷ BadNumber
    ∷ BadFile
    ∷ KeyHeld
    ∷ TableNotHeld
    ∷ OutputTooSmall
    ∷ SectionNotHeld
    ∷ StoreSize
    ∷ ShelfSpoiled
    ∷ DescriptorRunsPast
    ∷ TriggerCutOff
    ∷ TriggerOtherEvent
    ∷ TriggerForbiddenIdLength
    ∷ TriggerWrongTargetLength
    ∷ TriggerHighUriByte
    ∷ TriggerBytesLeft
    ∷ TriggerTooLong
    ∷ ClockAbove
    ∷ ClockMovedBack
    ∷ ClockPast
    ∷ ClockAlreadyHeld
    ∷ ClockFull
    ∷ ClockSpoiled
    ∷ WriterBodyTooLong
    ∷ WriterVersionAbove31
    ∷ WriterKAboveLast
    ∷ ProgrammePassesEnd
    ∷ ProgrammeBytesLeft
    ∷ ProgrammeOtherTable
    ∷ KeyShort
    ∷ AskedForNrtIt
    ∷ NoSuchAction
    ∷ []

abbrev pub among : ℕ → List Refusal → Refusal
among n [] = NoSuchAction
among n (r ∷ rs) = if eqb (number r) n then r else among n rs

-- the refusal with a number; of a number that none has, the last
abbrev pub refusal_of : ℕ → Refusal
refusal_of n = among n all
