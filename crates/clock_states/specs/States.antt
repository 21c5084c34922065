-- The states of the applications in a word: application i has w / 4 ^ i % 4.
use Rattle.std.specs.Prelude.{ℕ, ◌+◌, ◌*◌, ◌/◌, ◌%◌, ◌^◌, List, eqb, if◌then◌else◌}
use Rattle.clock_rule.specs.declared.App.{App}
use Rattle.clock_rule.specs.declared.State.{State}
use Rattle.clock_rule.specs.Rule.{state_of, applications}
use Rattle.clock_rule.specs.Numbers.{column_of}
use Rattle.clock_states.specs.UpTo.{up_to}

-- states have their numbers in document 01's order
abbrev pub state_no : ℕ → State
state_no n = if eqb n 0 then State.Released else (if eqb n 1 then State.Ready else (if eqb n 2 then State.Active else State.Suspended))

-- the applications that a word is
abbrev pub app_at : ℕ → ℕ → App
app_at w i = record { state = state_no (w / 4 ^ i % 4) }

unfoldable pub apps_in : ℕ → List App
apps_in w = up_to applications (app_at w)

-- the word that they are, a digit to the base 4 for each
abbrev pub state_digit : List App → ℕ → ℕ
state_digit apps i = column_of (state_of apps i) * 4 ^ i

unfoldable pub states_word : List App → ℕ
states_word apps =
    state_digit apps 0 + state_digit apps 1 + state_digit apps 2 + state_digit apps 3
    + state_digit apps 4 + state_digit apps 5 + state_digit apps 6 + state_digit apps 7
