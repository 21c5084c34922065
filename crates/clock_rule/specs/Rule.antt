-- What an action does to an application's state: four rows of four states (A/105, clauses 5.1.5 and 6.3).
use Rattle.std.specs.Prelude.{ℕ, Bool, List, leb, get_or, set}
use Rattle.clock_rule.specs.declared.App.{App}
use Rattle.clock_rule.specs.declared.State.{State}
use Rattle.clock_rule.specs.declared.State.TheVariants.{Released, Ready, Active, Suspended}
use Rattle.clock_rule.specs.declared.Action.{Action}
use Rattle.clock_rule.specs.declared.Action.TheVariants.{Prep, Exec, Susp, Kill}

-- a row, over Released, Ready, Active and Suspended
abbrev pub over : State → State → State → State → State → State
over a b c d Released = a
over a b c d Ready = b
over a b c d Active = c
over a b c d Suspended = d

-- the state that an action gives
abbrev pub acted : Action → State → State
acted Prep = over Ready Ready Active Suspended
acted Exec = over Active Active Active Active
acted Susp = over Released Ready Suspended Suspended
acted Kill = over Released Released Released Released

-- eight applications, numbered 0 to 7
abbrev pub applications : ℕ
applications = 8

-- an application above 7
abbrev pub above : ℕ → Bool
above n = leb applications n

-- the state of an application
abbrev pub state_of : List App → ℕ → State
state_of apps n = (get_or apps n (record { state = Released })).state

-- the applications after an action on one of them
unfoldable pub applied : List App → ℕ → Action → List App
applied apps n a = set apps n (record { state = acted a (state_of apps n) })
