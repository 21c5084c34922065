-- An offer on lent numbers: the answer and the store are those of the offer to the record that the numbers are; what is written into
-- the numbers goes by the answer, and the record that they then are is the offer's (`offer-shelf`).
use Rattle.std.specs.Prelude.{ℕ, List, length, Result, Ok, Err}
use Rattle.refusal.specs.declared.Refusal.{Refusal}
use Rattle.section.specs.Section.{header_of}
use Rattle.section.specs.declared.Header.{Header}
use Rattle.shelf.specs.Record.{key_of, place_of, free_of}
use Rattle.shelf.specs.Layout.{shelf_at}
use Rattle.shelf_write.specs.Writes.{held_in, head_in}
use Rattle.shelf_offer.specs.declared.Offered.{Offered}
use Rattle.shelf_offer.specs.Offer.{offer_of}

-- what a call leaves: the answer, the numbers, the store
pub record Leaving : Type 0 where
  pub said : Result Offered Refusal
  pub words : List ℕ
  pub store : List ℕ

abbrev pub leaving : Result Offered Refusal → List ℕ → List ℕ → Leaving
leaving said words store = record { said = said; words = words; store = store }

-- place p is taken by the table of a section, which alone is held
abbrev pub begun_words : List ℕ → ℕ → Header → ℕ → List ℕ
begun_words words p h size = held_in (head_in words p (key_of h) h.version h.last) p h.number size

-- the place that the key of a section has
abbrev pub place_for : List ℕ → Header → ℕ
place_for words h = place_of (shelf_at words) (key_of h)

-- the numbers after an offer that is answered so
abbrev pub words_by : List ℕ → List ℕ → Result Offered Refusal → List ℕ
words_by words payload (Ok Offered.Began) = begun_words words (free_of (shelf_at words)) (header_of payload) (length payload)
words_by words payload (Ok Offered.BeganAgain) = begun_words words (place_for words (header_of payload)) (header_of payload) (length payload)
words_by words payload (Ok Offered.Added) = held_in words (place_for words (header_of payload)) (header_of payload).number (length payload)
words_by words payload (Ok Offered.Repeat) = words
words_by words payload (Err r) = words

unfoldable pub offer_on : List ℕ → List ℕ → List ℕ → Leaving
offer_on words store payload =
    leaving
    (offer_of (shelf_at words) store payload).said
    (words_by words payload (offer_of (shelf_at words) store payload).said)
    (offer_of (shelf_at words) store payload).store
