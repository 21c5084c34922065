-- The numbers of actions and states, in document 01's order: the rows and the columns of the rule, and what stands for them in a
-- record's words and at the boundary.
use Rattle.std.specs.Prelude.{ℕ, ◌≡◌, ◌<◌, ltb, eqb, if◌then◌else◌, Result, Ok, Err}
use Rattle.refusal.specs.declared.Refusal.{Refusal}
use Rattle.refusal.specs.declared.Refusal.TheVariants.{NoSuchAction}
use Rattle.clock_rule.specs.declared.State.{State}
use Rattle.clock_rule.specs.declared.State.TheVariants.{Released, Ready, Active, Suspended}
use Rattle.clock_rule.specs.declared.Action.{Action}
use Rattle.clock_rule.specs.declared.Action.TheVariants.{Prep, Exec, Susp, Kill}

abbrev pub row_of : Action → ℕ
row_of Prep = 0
row_of Exec = 1
row_of Susp = 2
row_of Kill = 3

abbrev pub column_of : State → ℕ
column_of Released = 0
column_of Ready = 1
column_of Active = 2
column_of Suspended = 3

-- what an action and a state are as numbers
abbrev pub Row : Action → ℕ → Type 0
Row a n = (n ≡ row_of a) × (n < 4)

abbrev pub Column : State → ℕ → Type 0
Column s n = (n ≡ column_of s) × (n < 4)

-- the action with a number, where there is one
abbrev pub action_no : ℕ → Action
action_no n = if eqb n 0 then Prep else (if eqb n 1 then Exec else (if eqb n 2 then Susp else Kill))

-- a number above 3 is no action (255)
abbrev pub Decoded : ℕ → Result Action Refusal → Type 0
Decoded n r = r ≡ (if ltb 3 n then Err NoSuchAction else Ok (action_no n))
