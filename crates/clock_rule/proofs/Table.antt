-- The rule as a table is the rule.
--   stored                      what stands at an action's row and a state's column is what the action gives
use mathlib.Core.Path.{◌≡◌, refl}
use mathlib.Core.List.{List, [], ◌∷◌}
use lib.ListN.{get_or}
use Rattle.clock_rule.specs.declared.State.{State}
use Rattle.clock_rule.specs.declared.State.TheVariants.{Released, Ready, Active, Suspended}
use Rattle.clock_rule.specs.declared.Action.{Action}
use Rattle.clock_rule.specs.declared.Action.TheVariants.{Prep, Exec, Susp, Kill}
use Rattle.clock_rule.specs.Rule.{over, acted}
use Rattle.clock_rule.specs.Numbers.{row_of, column_of}

abbrev pub rule : List (List State)
rule =
    (Ready ∷ Ready ∷ Active ∷ Suspended ∷ [])
    ∷ (Active ∷ Active ∷ Active ∷ Active ∷ [])
    ∷ (Released ∷ Ready ∷ Suspended ∷ Suspended ∷ [])
    ∷ (Released ∷ Released ∷ Released ∷ Released ∷ [])
    ∷ []

over_at : (p q r t s : State) → get_or (p ∷ q ∷ r ∷ t ∷ []) (column_of s) Released ≡ over p q r t s
over_at p q r t Released = refl
over_at p q r t Ready = refl
over_at p q r t Active = refl
over_at p q r t Suspended = refl

pub stored : (a : Action) (s : State) → get_or (get_or rule (row_of a) []) (column_of s) Released ≡ acted a s
stored Prep s = over_at Ready Ready Active Suspended s
stored Exec s = over_at Active Active Active Active s
stored Susp s = over_at Released Ready Suspended Suspended s
stored Kill s = over_at Released Released Released Released s
