-- Tests of the four places and of every pair of them.
use mathlib.Core.Path.{◌≡◌, refl}
use mathlib.Core.Bool.{Bool, ◌||◌}
use Prim.Native.Nat.{ℕ}
use Rattle.base.specs.Below.{some}

pub some-four : (f : ℕ → Bool) → some 4 f ≡ ((f 0 || f 1) || f 2) || f 3
unfolding some
some-four f = refl

-- every pair once
pub pairs :
    (f : ℕ → ℕ → Bool)
    → some 4 (λ q. some q (λ p. f p q)) ≡ (f 0 1 || (f 0 2 || f 1 2)) || ((f 0 3 || f 1 3) || f 2 3)
unfolding some
pairs f = refl
