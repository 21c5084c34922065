-- Document 01's table of refusals, 30 to 35: each, and when it is given. The calls name the rows in their order.
use Rattle.std.specs.Prelude.{ℕ, ltb, leb, length}
use Rattle.refusal.specs.declared.Refusal.TheVariants.{ClockAbove, ClockMovedBack, ClockPast, ClockAlreadyHeld, ClockFull, ClockSpoiled}
use Rattle.base.specs.Choice.{Row, ◌if◌}
use Rattle.clock_rule.specs.Rule.{above}
use Rattle.clock_activation.specs.declared.Activation.{Activation}
use Rattle.clock_activation.specs.Activation.{past}
use Rattle.clock_activation.specs.Limits.{most_held}
use Rattle.clock_record.specs.Held.{is_held}
use Rattle.clock_record.specs.Book.{Book, spoiled}

-- 30: application above 7
abbrev pub no30 : ℕ → Row
no30 application = ClockAbove if above application

-- 31: clock moved back (equal is allowed)
abbrev pub no31 : Book → ℕ → Row
no31 b to = ClockMovedBack if ltb to b.now

-- 32: time more than 60,000 before the clock
abbrev pub no32 : Book → Activation → Row
no32 b a = ClockPast if past b.now a.time

-- 33: that activation is held
abbrev pub no33 : Book → Activation → Row
no33 b a = ClockAlreadyHeld if is_held a b.held

-- 34: 32 held
abbrev pub no34 : Book → Row
no34 b = ClockFull if leb most_held (length b.held)

-- 35: clock record spoiled
abbrev pub no35 : Book → Row
no35 b = ClockSpoiled if spoiled b
