-- Two activations: when they are one, and which of them a move applies first.
use Rattle.std.specs.Prelude.{ℕ, ◌-◌, Bool, true, false, ◌&&◌, ltb, eqb, if◌then◌else◌}
use Rattle.clock_rule.specs.declared.Action.{Action}
use Rattle.clock_activation.specs.declared.Activation.{Activation}
use Rattle.clock_activation.specs.declared.Held.{Held}
use Rattle.clock_activation.specs.Limits.{memory}

-- two with equal application, event and time are one activation, and the first heard stands (A/105, clause 15)
unfoldable pub alike : Activation → Activation → Bool
alike a b = (eqb a.application b.application && eqb a.event b.event) && eqb a.time b.time

-- the order in which a move applies: by time, then application, then event
unfoldable pub before : Activation → Activation → Bool
before a b =
    if ltb a.time b.time then true
    else (if ltb b.time a.time then false
    else (if ltb a.application b.application then true
    else (if ltb b.application a.application then false
    else ltb a.event b.event)))

-- a time more than 60,000 before the clock
unfoldable pub past : ℕ → ℕ → Bool
past now time = ltb memory (now - time)

-- what stands in an array where nothing does
abbrev pub nothing : Activation
nothing = record { application = 0; event = 0; action = Action.Prep; time = 0 }

abbrev pub nobody : Held
nobody = record { activation = nothing; applied = false }
