-- The answer in a number.
--   told       what the layer's call leaves, told in a number, is what the boundary's leaves
--   begun-back     the answer comes back out of its number
use mathlib.Core.Path.{◌≡◌, refl, ap}
use mathlib.Core.List.{List}
use Prim.Native.Nat.{ℕ, ◌<◌}
use native.Mathlib.Omega.{arith}
use borrow.Author.Tests.{ne_eqb}
use Rattle.answers.specs.Answers.{lent}
use Rattle.std.specs.Prelude.{Result, Ok, Err}
use Rattle.refusal.specs.Refusal.{number}
use Rattle.refusal.specs.declared.Refusal.{Refusal}
use Rattle.refusal.proofs.Numbers.{in_byte, back}
use Rattle.shelf_begin.specs.On.{leaving, begin_on}
use Rattle.shelf_begin.specs.Answer.{begun_code, begun_in, begin_out, begin_lent}

pub told :
    {said : Result (Unit {0}) Refusal}
    {code : ℕ}
    {held left : List ℕ}
    (words store : List ℕ)
    → leaving said held left ≡ begin_on words store
    → code ≡ begun_code said
    → lent code held left ≡ begin_lent words store
unfolding begin_lent
told words store e q = rw q (ap begin_out e)

-- a refusal is not 0
pub begun-back : (r : Result (Unit {0}) Refusal) → begun_in (begun_code r) ≡ r
begun-back (Ok tt) = refl
begun-back (Err r) = let l : 0 < number r = (in_byte r).0 in rw (ne_eqb (number r) 0 (λ z. omega arith)) (ap Err (back r))
