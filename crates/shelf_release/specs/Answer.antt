-- The number of the answer to a release, as it crosses the boundary: 0 where it is done.
use Rattle.std.specs.Prelude.{ℕ, List, eqb, if◌then◌else◌, Result, Ok, Err}
use Rattle.refusal.specs.Refusal.{refusal_of}
use Rattle.refusal.specs.declared.Refusal.{Refusal}
use Rattle.answers.specs.Answers.{Lent, lent, done}
use Rattle.key.specs.declared.Key.{Key}
use Rattle.shelf_release.specs.On.{Leaving, release_on}

abbrev pub released_code : Result (Unit {0}) Refusal → ℕ
released_code = done

-- what a host takes out of it
abbrev pub released_in : ℕ → Result (Unit {0}) Refusal
released_in code = if eqb code 0 then Ok tt else Err (refusal_of code)

-- what a release leaves
abbrev pub release_out : Leaving → Lent
release_out a = lent (released_code a.said) a.words a.store

unfoldable pub release_lent : List ℕ → List ℕ → Key → Lent
release_lent words store key = release_out (release_on words store key)
