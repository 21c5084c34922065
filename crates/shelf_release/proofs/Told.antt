-- The answer in a number.
--   told       what the layer's call leaves, told in a number, is what the boundary's leaves
--   released-back     the answer comes back out of its number
use mathlib.Core.Path.{◌≡◌, refl, ap}
use mathlib.Core.List.{List}
use Prim.Native.Nat.{ℕ, ◌<◌}
use native.Mathlib.Omega.{arith}
use borrow.Author.Tests.{ne_eqb}
use Rattle.answers.specs.Answers.{lent}
use Rattle.key.specs.declared.Key.{Key}
use Rattle.std.specs.Prelude.{Result, Ok, Err}
use Rattle.refusal.specs.Refusal.{number}
use Rattle.refusal.specs.declared.Refusal.{Refusal}
use Rattle.refusal.proofs.Numbers.{in_byte, back}
use Rattle.shelf_release.specs.On.{leaving, release_on}
use Rattle.shelf_release.specs.Answer.{released_code, released_in, release_out, release_lent}

pub told :
    {said : Result (Unit {0}) Refusal}
    {code : ℕ}
    {held left : List ℕ}
    (words store : List ℕ) (key : Key)
    → leaving said held left ≡ release_on words store key
    → code ≡ released_code said
    → lent code held left ≡ release_lent words store key
unfolding release_lent
told words store key e q = rw q (ap release_out e)

-- a refusal is not 0
pub released-back : (r : Result (Unit {0}) Refusal) → released_in (released_code r) ≡ r
released-back (Ok done) = refl
released-back (Err r) = let l : 0 < number r = (in_byte r).0 in rw (ne_eqb (number r) 0 (λ z. omega arith)) (ap Err (back r))
