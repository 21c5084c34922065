-- How the code goes about a payload: the first fault of each of its three parts, and where the parts are.
use Rattle.std.specs.Prelude.{ℕ, ◌≡◌, List, [], ◌∷◌, Result, Ok, Err}
use Rattle.refusal.specs.Refusal.{number}
use Rattle.refusal.specs.declared.Refusal.{Refusal}
use Rattle.base.specs.Choice.{Row, first}
use Rattle.answers.specs.Answers.{Told, told}
use Rattle.trigger_faults.specs.Fields.{head_faults, target_faults, user_faults, target_at, user_at, faults}
use Rattle.trigger_faults.specs.declared.Placed.{Placed}

-- the refusal of the first row that holds, where one does; then of each of the three parts
abbrev pub fault_of : List Row → Result (Unit {0}) Refusal
fault_of rows = first Err rows (Ok tt)

unfoldable pub head_fault : List ℕ → Result (Unit {0}) Refusal
head_fault s = fault_of (head_faults s)

unfoldable pub target_fault : List ℕ → ℕ → Result (Unit {0}) Refusal
target_fault s at = fault_of (target_faults s at)

unfoldable pub user_fault : List ℕ → ℕ → Result (Unit {0}) Refusal
user_fault s at = fault_of (user_faults s at)

-- no part of a payload has a fault
pub record Sound (s : List ℕ) : Type 0 where
  pub head : head_fault s ≡ Ok tt
  pub target : target_fault s (target_at s) ≡ Ok tt
  pub user : user_fault s (user_at s) ≡ Ok tt

-- the places of the target's type and of the user data's length
abbrev pub placed_in : List ℕ → Placed
placed_in s = record { target = target_at s; user = user_at s }

-- the first fault, or the places
unfoldable pub parts_of : List ℕ → Result Placed Refusal
parts_of s = first Err (faults s) (Ok (placed_in s))

-- its number and values
abbrev pub parts_told : Result Placed Refusal → Told
parts_told (Err r) = told (number r) []
parts_told (Ok p) = told 0 (p.target ∷ p.user ∷ [])

-- which lose nothing
abbrev pub PartsTold : Type 0
PartsTold = (x y : Result Placed Refusal) → parts_told x ≡ parts_told y → x ≡ y
