-- Laws of the numbers of refusal (`specs/Refusal.antt` has the words).
--   in_byte     each stands in 8 bits and is not 0
--   back        the refusal with a refusal's number is that one
--   once        no two refusals have one number
--   handed_on   what `?` returns is the refusal that it met
use mathlib.Core.Path.{◌≡◌, refl, sym, ap, ◌∙◌}
use native.Mathlib.Omega.{arith}
use Rattle.std.specs.Prelude.{Result, Ok, Err, IsErrAnd}
use Prim.Native.Nat.{ℕ, ◌<◌}
use Rattle.refusal.specs.Refusal.{number, refusal_of, InByte, Once}
use Rattle.refusal.specs.declared.Refusal.{Refusal}
use Rattle.refusal.specs.declared.Refusal.TheVariants.{PayloadShort, WrongIndicator, LengthOutOfRange, LongerThanPayload, ShorterThanPayload, NumberAboveLast, LastAbove15, NotCurrent, NoFreePlace, Differs, BadNumber, BadFile, KeyHeld, TableNotHeld, OutputTooSmall, SectionNotHeld, StoreSize, ShelfSpoiled, DescriptorRunsPast, TriggerCutOff, TriggerOtherEvent, TriggerForbiddenIdLength, TriggerWrongTargetLength, TriggerHighUriByte, TriggerBytesLeft, TriggerTooLong, ClockAbove, ClockMovedBack, ClockPast, ClockAlreadyHeld, ClockFull, ClockSpoiled, WriterBodyTooLong, WriterVersionAbove31, WriterKAboveLast, ProgrammePassesEnd, ProgrammeBytesLeft, ProgrammeOtherTable, KeyShort, AskedForNrtIt, NoSuchAction}

pub in_byte : InByte
in_byte PayloadShort = (omega arith, omega arith)
in_byte WrongIndicator = (omega arith, omega arith)
in_byte LengthOutOfRange = (omega arith, omega arith)
in_byte LongerThanPayload = (omega arith, omega arith)
in_byte ShorterThanPayload = (omega arith, omega arith)
in_byte NumberAboveLast = (omega arith, omega arith)
in_byte LastAbove15 = (omega arith, omega arith)
in_byte NotCurrent = (omega arith, omega arith)
in_byte NoFreePlace = (omega arith, omega arith)
in_byte Differs = (omega arith, omega arith)
in_byte BadNumber = (omega arith, omega arith)
in_byte BadFile = (omega arith, omega arith)
in_byte KeyHeld = (omega arith, omega arith)
in_byte TableNotHeld = (omega arith, omega arith)
in_byte OutputTooSmall = (omega arith, omega arith)
in_byte SectionNotHeld = (omega arith, omega arith)
in_byte StoreSize = (omega arith, omega arith)
in_byte ShelfSpoiled = (omega arith, omega arith)
in_byte DescriptorRunsPast = (omega arith, omega arith)
in_byte TriggerCutOff = (omega arith, omega arith)
in_byte TriggerOtherEvent = (omega arith, omega arith)
in_byte TriggerForbiddenIdLength = (omega arith, omega arith)
in_byte TriggerWrongTargetLength = (omega arith, omega arith)
in_byte TriggerHighUriByte = (omega arith, omega arith)
in_byte TriggerBytesLeft = (omega arith, omega arith)
in_byte TriggerTooLong = (omega arith, omega arith)
in_byte ClockAbove = (omega arith, omega arith)
in_byte ClockMovedBack = (omega arith, omega arith)
in_byte ClockPast = (omega arith, omega arith)
in_byte ClockAlreadyHeld = (omega arith, omega arith)
in_byte ClockFull = (omega arith, omega arith)
in_byte ClockSpoiled = (omega arith, omega arith)
in_byte WriterBodyTooLong = (omega arith, omega arith)
in_byte WriterVersionAbove31 = (omega arith, omega arith)
in_byte WriterKAboveLast = (omega arith, omega arith)
in_byte ProgrammePassesEnd = (omega arith, omega arith)
in_byte ProgrammeBytesLeft = (omega arith, omega arith)
in_byte ProgrammeOtherTable = (omega arith, omega arith)
in_byte KeyShort = (omega arith, omega arith)
in_byte AskedForNrtIt = (omega arith, omega arith)
in_byte NoSuchAction = (omega arith, omega arith)

pub back : (r : Refusal) → refusal_of (number r) ≡ r
back PayloadShort = refl
back WrongIndicator = refl
back LengthOutOfRange = refl
back LongerThanPayload = refl
back ShorterThanPayload = refl
back NumberAboveLast = refl
back LastAbove15 = refl
back NotCurrent = refl
back NoFreePlace = refl
back Differs = refl
back BadNumber = refl
back BadFile = refl
back KeyHeld = refl
back TableNotHeld = refl
back OutputTooSmall = refl
back SectionNotHeld = refl
back StoreSize = refl
back ShelfSpoiled = refl
back DescriptorRunsPast = refl
back TriggerCutOff = refl
back TriggerOtherEvent = refl
back TriggerForbiddenIdLength = refl
back TriggerWrongTargetLength = refl
back TriggerHighUriByte = refl
back TriggerBytesLeft = refl
back TriggerTooLong = refl
back ClockAbove = refl
back ClockMovedBack = refl
back ClockPast = refl
back ClockAlreadyHeld = refl
back ClockFull = refl
back ClockSpoiled = refl
back WriterBodyTooLong = refl
back WriterVersionAbove31 = refl
back WriterKAboveLast = refl
back ProgrammePassesEnd = refl
back ProgrammeBytesLeft = refl
back ProgrammeOtherTable = refl
back KeyShort = refl
back AskedForNrtIt = refl
back NoSuchAction = refl

pub once : Once
once a b e = sym (back a) ∙ ap refusal_of e ∙ back b

pub handed_on : {A : Type 0} {e : Refusal} (r : Result A Refusal) → IsErrAnd r (λ x. x ≡ e) → r ≡ Err e
handed_on (Ok a) h = absurd h
handed_on (Err x) h = ap Err h
