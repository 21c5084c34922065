-- The record that a call is given and the one that it hands back. Its words say a book, and a book has its words.
use Rattle.std.specs.Prelude.{ℕ, Result, Ok, Err}
use Rattle.refusal.specs.declared.Refusal.{Refusal}
use Rattle.clock_record.specs.Book.{Book}
use Rattle.clock_record.specs.Words.{book_in, words_of}
use Rattle.clock.specs.declared.Clock.{Clock}
use Rattle.clock.specs.declared.Handed.{Handed}
use Rattle.clock.specs.declared.Heard.{Heard}
use Rattle.clock_activation.specs.declared.Activation.{Activation}
use Rattle.clock.specs.Answered.{Answered}
use Rattle.clock.specs.Offer.{offer_in}
use Rattle.clock.specs.Move.{move_in}

abbrev pub book_of : Clock → Book
book_of c = book_in c.words

abbrev pub clock_of : Book → Clock
clock_of b = record { words = words_of b }

-- an accepted call leaves the record of what it makes, a refused one the record that was given
abbrev pub left_with : {A : Type 0} → Clock → Result A Refusal → Book → Clock
left_with c (Ok x) b = clock_of b
left_with c (Err r) b = c

abbrev pub left_by : {A : Type 0} → Clock → Answered A → Clock
left_by c r = left_with c r.answer r.book

abbrev pub handed : {A : Type 0} → Clock → Answered A → Handed A
handed c r = record { clock = left_by c r; answer = r.answer }

unfoldable pub offer_to : Clock → Activation → Handed Heard
offer_to c a = handed c (offer_in (book_of c) a)

unfoldable pub move_to : Clock → ℕ → Handed ℕ
move_to c to = handed c (move_in (book_of c) to)
