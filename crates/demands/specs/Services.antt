-- Document 02, request 4, of the functions that a host calls: two programme lists of different services no longer drive each other off the shelf,
-- each seen as a new version of the other: the second begins a table of its own, and the first stays. The theorems are in proofs/Services. When any offer
-- is answered so, and what a question is answered, is told exactly in specs/Offers and specs/Shelf (BeganExactly, BeganAgainExactly, AskedExactly).
use Rattle.std.specs.Prelude.{ℕ, ◌≡◌, false, ◌⊎◌, List, [], ◌∷◌, ◌++◌, Ok}
use Rattle.key.specs.Key.{nrt_it}
use Rattle.section.specs.Section.{table_id, service_id, time_span_start, key_in}
use Rattle.shelf_offer.specs.declared.Offered.{Offered}
use Rattle.shelf_offer.specs.Answer.{offered_code}
use Rattle.shelf_laws.specs.History.{Question, about}
use Rattle.shelf_laws.specs.Log.{held_by, Full}
use Rattle.shelf_laws.specs.Reception.{SectionOf}
use Rattle.shelf_laws.specs.Apart.{offers_of, Others}
use Rattle.shelf_histories.specs.History.{History, log_after, reply_after, offer_after}

-- the second history is the first, and then these payloads are offered
abbrev pub ThenOffers : History → List (List ℕ) → History → Type 0
ThenOffers first payloads second = second.calls ≡ first.calls ++ offers_of payloads

-- payloads with other keys than a table's, as many as one likes, change the answer to no question about that table (a copy, whether it is complete, what is
-- missing, a save), whatever they are answered themselves: it is held as before, with the same bytes, and is called complete if it was
abbrev pub OthersStay : Type 0
OthersStay =
    (first second : History) (payloads : List (List ℕ))
    → ThenOffers first payloads second
    → (q : Question)
    → Others (about q) payloads
    → reply_after second q ≡ reply_after first q

-- sections of programme lists of other services than this one's, or with another start, whether or not they share its extension and its version
abbrev pub OtherLists : List ℕ → List (List ℕ) → Type 0
OtherLists one [] = Unit {0}
OtherLists one (p ∷ ps) =
    (table_id p ≡ nrt_it) × (¬ (service_id p ≡ service_id one) ⊎ ¬ (time_span_start p ≡ time_span_start one)) × OtherLists one ps

abbrev pub ServicesApart : Type 0
ServicesApart =
    (first second : History) (one : List ℕ) (payloads : List (List ℕ))
    → table_id one ≡ nrt_it
    → OtherLists one payloads
    → ThenOffers first payloads second
    → (q : Question)
    → about q ≡ key_in one
    → reply_after second q ≡ reply_after first q

-- a list that was not held begins a table of its own, where a place is free, though such lists came just before it
abbrev pub ServiceBegins : Type 0
ServiceBegins =
    (first second : History) (one : List ℕ) (payloads : List (List ℕ)) → table_id one ≡ nrt_it → OtherLists one payloads
    → ThenOffers first payloads second
    → SectionOf (key_in one) one
    → held_by (key_in one) (log_after first) ≡ false
    → ¬ (Full (log_after second))
    → (offer_after second one).code ≡ offered_code (Ok Offered.Began)
