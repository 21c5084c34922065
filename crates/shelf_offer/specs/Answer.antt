-- The number of the answer to an offer, as it crosses the boundary: a case or a refusal, and no other values.
use Rattle.std.specs.Prelude.{ℕ, List, eqb, if◌then◌else◌, Result, Ok, Err}
use Rattle.refusal.specs.Refusal.{number, refusal_of}
use Rattle.refusal.specs.declared.Refusal.{Refusal}
use Rattle.answers.specs.Answers.{Lent, lent}
use Rattle.shelf_offer.specs.declared.Offered.{Offered}
use Rattle.shelf_offer.specs.On.{Leaving, offer_on}

-- an accepted offer answers from bit 8 up: 1 began, 2 began again, 3 added, 4 repeat; a refused one its number alone
abbrev pub offered_code : Result Offered Refusal → ℕ
offered_code (Ok Offered.Began) = 256
offered_code (Ok Offered.BeganAgain) = 512
offered_code (Ok Offered.Added) = 768
offered_code (Ok Offered.Repeat) = 1024
offered_code (Err r) = number r

-- what a host takes out of it
abbrev pub offered_in : ℕ → Result Offered Refusal
offered_in code =
    if eqb code 256 then Ok Offered.Began
    else (if eqb code 512 then Ok Offered.BeganAgain
    else (if eqb code 768 then Ok Offered.Added
    else (if eqb code 1024 then Ok Offered.Repeat
    else Err (refusal_of code))))

-- what an offer leaves
abbrev pub offer_out : Leaving → Lent
offer_out a = lent (offered_code a.said) a.words a.store

unfoldable pub offer_lent : List ℕ → List ℕ → List ℕ → Lent
offer_lent words store payload = offer_out (offer_on words store payload)
