-- The number of the answer to beginning a shelf, as it crosses the boundary: 0 where it is done.
use Rattle.std.specs.Prelude.{ℕ, List, eqb, if◌then◌else◌, Result, Ok, Err}
use Rattle.refusal.specs.Refusal.{refusal_of}
use Rattle.refusal.specs.declared.Refusal.{Refusal}
use Rattle.answers.specs.Answers.{Lent, lent, done}
use Rattle.shelf_begin.specs.On.{Leaving, begin_on}

abbrev pub begun_code : Result (Unit {0}) Refusal → ℕ
begun_code = done

-- what a host takes out of it
abbrev pub begun_in : ℕ → Result (Unit {0}) Refusal
begun_in code = if eqb code 0 then Ok tt else Err (refusal_of code)

-- what beginning a shelf leaves
abbrev pub begin_out : Leaving → Lent
begin_out a = lent (begun_code a.said) a.words a.store

unfoldable pub begin_lent : List ℕ → List ℕ → Lent
begin_lent words store = begin_out (begin_on words store)
