-- The number of the answer to a load, as it crosses the boundary: 0 where it is done.
use Rattle.std.specs.Prelude.{ℕ, List, eqb, if◌then◌else◌, Result, Ok, Err}
use Rattle.refusal.specs.Refusal.{refusal_of}
use Rattle.refusal.specs.declared.Refusal.{Refusal}
use Rattle.answers.specs.Answers.{Lent, lent, done}
use Rattle.shelf_load.specs.On.{Leaving, load_on}

abbrev pub loaded_code : Result (Unit {0}) Refusal → ℕ
loaded_code = done

-- what a host takes out of it
abbrev pub loaded_in : ℕ → Result (Unit {0}) Refusal
loaded_in code = if eqb code 0 then Ok tt else Err (refusal_of code)

-- what a load leaves
abbrev pub load_out : Leaving → Lent
load_out a = lent (loaded_code a.said) a.words a.store

unfoldable pub load_lent : List ℕ → List ℕ → List ℕ → Lent
load_lent words store file = load_out (load_on words store file)
