-- The set of what a list holds.
use Rattle.std.specs.Prelude.{◌≡◌, ◌⊎◌, ◌↔◌, List, [], ◌∷◌}

abbrev pub Member : {A : Type 0} → A → List A → Type 0
Member x [] = ⊥
Member x (y ∷ l) = (x ≡ y) ⊎ Member x l

-- two lists hold one set
abbrev pub OneSet : {A : Type 0} → List A → List A → Type 0
OneSet {A} l r = (x : A) → Member x l ↔ Member x r
