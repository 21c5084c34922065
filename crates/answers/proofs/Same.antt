-- What a call leaves, told with equal parts; and answers that are told apart by their values.
--   re-word, re-code      the same with equal numbers, or an equal answer
--   valueless             an answer without values is none with some
use mathlib.Core.Path.{◌≡◌, ap}
use mathlib.Core.List.{List, [], ◌∷◌}
use Prim.Native.Nat.{ℕ}
use native.Mathlib.Omega.{arith}
use Rattle.answers.specs.Answers.{lent, Told, told}

-- the same answer and store, with numbers that are equal
pub re-word : (code : ℕ) (w w' st : List ℕ) → w ≡ w' → lent code w st ≡ lent code w' st
re-word code w w' st e = ap (λ x. lent code x st) e

pub re-code : (a b : ℕ) (w st : List ℕ) → a ≡ b → lent a w st ≡ lent b w st
re-code a b w st e = ap (λ x. lent x w st) e

pub valueless : {P : Type 0} (m n v : ℕ) (vs : List ℕ) → told m [] ≡ told n (v ∷ vs) → P
valueless m n v vs e =
    let q : ◌≡◌ {A = List ℕ} [] (v ∷ vs) = ap (λ (t : Told). t.values) e in
    absurd (let z : ◌≡◌ {A = ℕ} 0 1 = cc in omega arith)
