-- Lists: tests over them, and when two differ in their order alone.
use Rattle.std.specs.Prelude.{Bool, false, ◌||◌, List, [], ◌∷◌, if◌then◌else◌}

module _ {A : Type 0} where
  -- one of the list passes
  unfoldable pub any_of : (A → Bool) → List A → Bool
  any_of p [] = false
  any_of p (x ∷ xs) = p x || any_of p xs

  -- each of the list has the property
  abbrev pub All : (A → Type 0) → List A → Type 0
  All P [] = Unit {0}
  All P (x ∷ xs) = P x × All P xs

  -- those of the list that pass, in their order
  unfoldable pub only_of : (A → Bool) → List A → List A
  only_of p [] = []
  only_of p (x ∷ xs) = if p x then x ∷ only_of p xs else only_of p xs

-- one list is the other in some order
pub data Rearranged {A : Type 0} : List A → List A → Type 0 where
  none : Rearranged [] []
  keep : {x : A} {l r : List A} → Rearranged l r → Rearranged (x ∷ l) (x ∷ r)
  swap : {x y : A} {l : List A} → Rearranged (x ∷ y ∷ l) (y ∷ x ∷ l)
  next : {l m r : List A} → Rearranged l m → Rearranged m r → Rearranged l r
