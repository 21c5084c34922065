-- An activation is offered.
use Rattle.std.specs.Prelude.{Bool, true, false, List, [], ◌∷◌, ◌++◌, leb, if◌then◌else◌, Ok, Err}
use Rattle.refusal.specs.declared.Refusal.{Refusal}
use Rattle.base.specs.Choice.{Row, first}
use Rattle.clock_rule.specs.Rule.{applied}
use Rattle.clock_activation.specs.declared.Activation.{Activation}
use Rattle.clock_activation.specs.declared.Held.{Held}
use Rattle.clock.specs.declared.Heard.{Heard}
use Rattle.clock_record.specs.Book.{Book}
use Rattle.clock.specs.Answered.{Answered}
use Rattle.clock.specs.Refusals.{no30, no32, no33, no34, no35}

-- the refusals, in their order
abbrev pub faults : Book → Activation → List Row
faults b a = no35 b ∷ no30 a.application ∷ no32 b a ∷ no33 b a ∷ no34 b ∷ []

abbrev pub refused : Book → Refusal → Answered Heard
refused b r = record { answer = Err r; book = b }

-- one more held
abbrev pub more : Book → Activation → Bool → List Held
more b a done = b.held ++ (record { activation = a; applied = done } ∷ [])

-- a time at or before the clock is applied on arrival
abbrev pub applies : Book → Activation → Answered Heard
applies b a =
    record {
      answer = Ok Heard.Applied;
      book = record { over = false; now = b.now; apps = applied b.apps a.application a.action; held = more b a true };
    }

-- a later one waits
abbrev pub waits : Book → Activation → Answered Heard
waits b a = record { answer = Ok Heard.Waiting; book = record { over = false; now = b.now; apps = b.apps; held = more b a false } }

unfoldable pub offer_in : Book → Activation → Answered Heard
offer_in b a = first (refused b) (faults b a) (if leb a.time b.now then applies b a else waits b a)
