-- A table of refusals in words. Its rows stand in the order of document 01; the tests of the same rows are a table of `Choice`.
use Rattle.std.specs.Prelude.{ℕ, List, [], ◌∷◌, Bool, true, false, not, ◌&&◌, ◌||◌, ◌↔◌, ◌≡◌, eqb}
use Rattle.refusal.specs.Refusal.{number}
use Rattle.refusal.specs.declared.Refusal.{Refusal}
use Rattle.base.specs.Choice.{Row, If◌then◌else◌}

-- a row: the number, and what is so when it is given
pub record Rule : Type 1 where
  pub no : ℕ
  pub holds : Type 0

infix 90 ◌says◌
abbrev pub ◌says◌ : ℕ → Type 0 → Rule
n says p = record { no = n; holds = p }

-- none of the rows holds
abbrev pub None : List Rule → Type 0
None [] = Unit {0}
None (w ∷ ws) = ¬ w.holds × None ws

-- the rows above the one of that number; all, where none has it
abbrev pub above : ℕ → List Rule → List Rule
above n [] = []
above n (w ∷ ws) = If eqb w.no n then [] else (w ∷ above n ws)

-- what the row of that number says; nothing is so of a number that no row has
abbrev pub said : ℕ → List Rule → Type 0
said n [] = ⊥
said n (w ∷ ws) = If eqb w.no n then w.holds else said n ws

-- a row has that number
abbrev pub numbered : ℕ → List Row → Bool
numbered n [] = false
numbered n (r ∷ rs) = eqb (number r.refusal) n || numbered n rs

-- no two rows have one number
abbrev pub once : List Row → Bool
once [] = true
once (r ∷ rs) = not (numbered (number r.refusal) rs) && once rs

-- the test holds exactly when the words are so
abbrev pub Decides : Bool → Type 0 → Type 0
Decides t p = (t ≡ true) ↔ p

-- row by row, the tests and the words are of one number and hold alike
abbrev pub Agree : List Row → List Rule → Type 0
Agree [] [] = Unit {0}
Agree [] (w ∷ ws) = ⊥
Agree (r ∷ rs) [] = ⊥
Agree (r ∷ rs) (w ∷ ws) = (number r.refusal ≡ w.no) × Decides r.when w.holds × Agree rs ws

-- so of the refusal of each row
abbrev pub Each : (Refusal → Type 0) → List Row → Type 0
Each p [] = Unit {0}
Each p (r ∷ rs) = p r.refusal × Each p rs
