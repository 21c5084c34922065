-- What a clock holds once it has moved.
use Rattle.std.specs.Prelude.{ℕ, Bool, not, ◌&&◌, ◌||◌, List, map}
use Rattle.clock_activation.specs.declared.Held.{Held}
use Rattle.clock_activation.specs.Activation.{past}
use Rattle.clock_record.specs.Lists.{only_of}
use Rattle.clock_record.specs.Waiting.{reached}

-- the move that reaches a waiting one applies it
abbrev pub moved : ℕ → Held → Held
moved to h = record { activation = h.activation; applied = h.applied || reached to h.activation }

-- an applied activation is remembered while its time is not more than 60,000 before the clock
abbrev pub forgotten : ℕ → Held → Bool
forgotten to h = h.applied && past to h.activation.time

-- what is held after a move
unfoldable pub kept_of : ℕ → List Held → List Held
kept_of to hs = only_of (λ h. not (forgotten to h)) (map (moved to) hs)
