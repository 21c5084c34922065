-- Every answer with its reason, in document 01's words and in the order of its refusals.
use Rattle.std.specs.Prelude.{ℕ, ◌+◌, ◌<◌, ◌≤◌, length}
use Rattle.refusal.specs.declared.Refusal.TheVariants.{ClockAbove, ClockMovedBack, ClockPast, ClockAlreadyHeld, ClockFull, ClockSpoiled}
use Rattle.clock_activation.specs.declared.Activation.{Activation}
use Rattle.clock_activation.specs.Limits.{memory, most_held}
use Rattle.clock.specs.declared.Heard.{Heard}
use Rattle.clock_record.specs.Book.{Book}
use Rattle.clock.specs.Answered.{Answered}
use Rattle.clock.specs.Spoiled.{Holds, Spoiled}
use Rattle.clock.specs.Offer.{refused, applies, waits}
use Rattle.clock.specs.Move.{advanced}
use Rattle.clock.specs.Move as Move

-- 35, 30, 32, 33, 34, applied, waiting
pub data Offering (b : Book) (a : Activation) : Answered Heard → Type 0 where
  spoiled : Spoiled b → Offering b a (refused b ClockSpoiled)
  above : ¬ Spoiled b → 7 < a.application → Offering b a (refused b ClockAbove)
  past : ¬ Spoiled b → a.application ≤ 7 → a.time + memory < b.now → Offering b a (refused b ClockPast)
  held : ¬ Spoiled b → a.application ≤ 7 → b.now ≤ a.time + memory → Holds b a → Offering b a (refused b ClockAlreadyHeld)
  full : ¬ Spoiled b → a.application ≤ 7 → b.now ≤ a.time + memory → ¬ Holds b a → most_held ≤ length b.held
      → Offering b a (refused b ClockFull)
  now : ¬ Spoiled b → a.application ≤ 7 → b.now ≤ a.time + memory → ¬ Holds b a → length b.held < most_held
      → a.time ≤ b.now → Offering b a (applies b a)
  later : ¬ Spoiled b → a.application ≤ 7 → ¬ Holds b a → length b.held < most_held → b.now < a.time → Offering b a (waits b a)

-- 35, 31, moved
pub data Moving (b : Book) (to : ℕ) : Answered ℕ → Type 0 where
  spoiled : Spoiled b → Moving b to (Move.refused b ClockSpoiled)
  back : ¬ Spoiled b → to < b.now → Moving b to (Move.refused b ClockMovedBack)
  on : ¬ Spoiled b → b.now ≤ to → Moving b to (advanced b to)
