-- The answer in a number.
--   told       what the layer's call leaves, told in a number, is what the boundary's leaves
--   loaded-back     the answer comes back out of its number
use mathlib.Core.Path.{◌≡◌, refl, ap}
use mathlib.Core.List.{List}
use Prim.Native.Nat.{ℕ, ◌<◌}
use native.Mathlib.Omega.{arith}
use borrow.Author.Tests.{ne_eqb}
use Rattle.answers.specs.Answers.{lent}
use Rattle.std.specs.Prelude.{Result, Ok, Err}
use Rattle.refusal.specs.Refusal.{number}
use Rattle.refusal.specs.declared.Refusal.{Refusal}
use Rattle.refusal.proofs.Numbers.{in_byte, back}
use Rattle.shelf_load.specs.On.{leaving, load_on}
use Rattle.shelf_load.specs.Answer.{loaded_code, loaded_in, load_out, load_lent}

pub told :
    {said : Result (Unit {0}) Refusal}
    {code : ℕ}
    {held left : List ℕ}
    (words store file : List ℕ)
    → leaving said held left ≡ load_on words store file
    → code ≡ loaded_code said
    → lent code held left ≡ load_lent words store file
unfolding load_lent
told words store file e q = rw q (ap load_out e)

-- a refusal is not 0
pub loaded-back : (r : Result (Unit {0}) Refusal) → loaded_in (loaded_code r) ≡ r
loaded-back (Ok done) = refl
loaded-back (Err r) = let l : 0 < number r = (in_byte r).0 in rw (ne_eqb (number r) 0 (λ z. omega arith)) (ap Err (back r))
