-- What the records that are handed back say: the layer's calls are `offer_in` and `move_in` of what the records say.
use Rattle.std.specs.Prelude.{ℕ, ◌≡◌}
use Rattle.clock_activation.specs.declared.Activation.{Activation}
use Rattle.clock.specs.declared.Clock.{Clock}
use Rattle.clock.specs.Offer.{offer_in}
use Rattle.clock.specs.Move.{move_in}
use Rattle.clock.specs.Record.{book_of, offer_to, move_to}

abbrev pub OfferSays : Clock → Activation → Type 0
OfferSays c a = record { answer = (offer_to c a).answer; book = book_of (offer_to c a).clock } ≡ offer_in (book_of c) a

abbrev pub MoveSays : Clock → ℕ → Type 0
MoveSays c to = record { answer = (move_to c to).answer; book = book_of (move_to c to).clock } ≡ move_in (book_of c) to
