-- What may be asked of a clock: its time, and an application's state.
use Rattle.std.specs.Prelude.{ℕ, [], ◌∷◌, Result, Ok, Err}
use Rattle.refusal.specs.declared.Refusal.{Refusal}
use Rattle.base.specs.Choice.{first}
use Rattle.clock_rule.specs.declared.State.{State}
use Rattle.clock_rule.specs.Rule.{state_of}
use Rattle.clock_record.specs.Book.{Book}
use Rattle.clock.specs.Refusals.{no30, no35}

-- whether it is sound at all
unfoldable pub sound_in : Book → Result (Unit {0}) Refusal
sound_in b = first Err (no35 b ∷ []) (Ok tt)

unfoldable pub time_in : Book → Result ℕ Refusal
time_in b = first Err (no35 b ∷ []) (Ok b.now)

unfoldable pub state_in : Book → ℕ → Result State Refusal
state_in b n = first Err (no35 b ∷ no30 n ∷ []) (Ok (state_of b.apps n))
