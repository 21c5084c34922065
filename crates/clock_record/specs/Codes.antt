-- The numbers of the held, by which the code finds two alike.
use Rattle.std.specs.Prelude.{ℕ, ◌≡◌, Bool, false, ◌||◌, List, [], ◌∷◌, map, eqb}
use Rattle.clock_activation.specs.declared.Held.{Held}
use Rattle.clock_activation.specs.Code.{code_of, Narrow}
use Rattle.clock_record.specs.Lists.{any_of, All}

-- one of four numbers
abbrev pub one_of : ℕ → ℕ → ℕ → ℕ → ℕ → Bool
one_of a b c d x = ((eqb a x || eqb b x) || eqb c x) || eqb d x

-- two of the numbers are equal
unfoldable pub two_same : List ℕ → Bool
two_same [] = false
two_same (x ∷ l) = any_of (eqb x) l || two_same l

abbrev pub code_held : Held → ℕ
code_held h = code_of h.activation

pub record Numbered (hs : List Held) (l : List ℕ) : Type 0 where
  pub are : l ≡ map code_held hs
  pub narrow : All (λ h. Narrow h.activation) hs
