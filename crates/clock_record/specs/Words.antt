-- A clock record in words: 67 of them, of 32 bits.
--   word 0               the clock
--   word 1               the states, two bits each: application i has w / 4 ^ i % 4
--   word 2               how many are held
--   words 3 + 2i, 4 + 2i  place i: the time; event + 2 ^ 16 application + 2 ^ 24 action + 2 ^ 26 applied
-- Bits that have no part in this are disregarded, so every 67 words are some record.
use Rattle.std.specs.Prelude.{ℕ, zero, suc, ◌+◌, ◌*◌, List, [], ◌∷◌, ltb, length, take, get_or}
use Rattle.clock_activation.specs.declared.Held.{Held}
use Rattle.clock_activation.specs.Limits.{most_held}
use Rattle.clock_activation.specs.Places.{held_in, mark_of}
use Rattle.clock_states.specs.UpTo.{up_to}
use Rattle.clock_states.specs.States.{apps_in, states_word}
use Rattle.clock_record.specs.Book.{Book}

abbrev pub record_size : ℕ
record_size = 67

-- the word at a place of the record
abbrev pub word_at : List ℕ → ℕ → ℕ
word_at w k = get_or w k 0

-- what the words of place i hold
abbrev pub in_place : List ℕ → ℕ → Held
in_place w i = held_in (word_at w (3 + 2 * i)) (word_at w (4 + 2 * i))

unfoldable pub helds_in : List ℕ → List Held
helds_in w = up_to most_held (in_place w)

-- what the words say
abbrev pub book_in : List ℕ → Book
book_in w = record { over = ltb most_held (word_at w 2); now = word_at w 0; apps = apps_in (word_at w 1); held = take (word_at w 2) (helds_in w) }

-- the words of n places that hold these; places past them are zeros
unfoldable pub pairs : ℕ → List Held → List ℕ
pairs zero hs = []
pairs (suc n) [] = 0 ∷ 0 ∷ pairs n []
pairs (suc n) (h ∷ hs) = h.activation.time ∷ mark_of h ∷ pairs n hs

-- the words of a clock, a word of states, and those that are held
unfoldable pub words_with : ℕ → ℕ → List Held → List ℕ
words_with now states hs = now ∷ states ∷ length hs ∷ pairs most_held hs

-- the words of what a record says
abbrev pub words_of : Book → List ℕ
words_of b = words_with b.now (states_word b.apps) b.held
