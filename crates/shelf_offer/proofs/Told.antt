-- The answer in a number.
--   told       what the layer's call leaves, told in a number, is what the boundary's leaves
--   offered-back     the answer comes back out of its number
use mathlib.Core.Path.{◌≡◌, refl, ap}
use mathlib.Core.List.{List}
use Prim.Native.Nat.{ℕ, ◌<◌}
use native.Mathlib.Omega.{arith}
use borrow.Author.Tests.{ne_eqb}
use Rattle.answers.specs.Answers.{lent}
use Rattle.std.specs.Prelude.{Result, Ok, Err}
use Rattle.refusal.specs.Refusal.{number}
use Rattle.refusal.specs.declared.Refusal.{Refusal}
use Rattle.refusal.proofs.Numbers.{in_byte, back}
use Rattle.shelf_offer.specs.declared.Offered.{Offered}
use Rattle.shelf_offer.specs.On.{leaving, offer_on}
use Rattle.shelf_offer.specs.Answer.{offered_code, offered_in, offer_out, offer_lent}

pub told :
    {said : Result Offered Refusal}
    {code : ℕ}
    {held left : List ℕ}
    (words store payload : List ℕ)
    → leaving said held left ≡ offer_on words store payload
    → code ≡ offered_code said
    → lent code held left ≡ offer_lent words store payload
unfolding offer_lent
told words store payload e q = rw q (ap offer_out e)

-- a refusal is from 1 to 255
pub offered-back : (r : Result Offered Refusal) → offered_in (offered_code r) ≡ r
offered-back (Ok Offered.Began) = refl
offered-back (Ok Offered.BeganAgain) = refl
offered-back (Ok Offered.Added) = refl
offered-back (Ok Offered.Repeat) = refl
offered-back (Err r) =
    let n = number r in
    let l : n < 256 = (in_byte r).1 in
    rw (ne_eqb n 256 (λ z. omega arith), ne_eqb n 512 (λ z. omega arith), ne_eqb n 768 (λ z. omega arith), ne_eqb n 1024 (λ z. omega arith)) (ap Err (back r))
