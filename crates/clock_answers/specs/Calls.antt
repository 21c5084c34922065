-- How the boundary lends a clock: the record in words, and the answer of each call in a number.
use Rattle.std.specs.Prelude.{ℕ, ◌≤◌, Bool, not, List, [], ◌∷◌, ltb, eqb, length, Result, Ok, Err}
use Rattle.refusal.specs.Refusal.{number}
use Rattle.refusal.specs.declared.Refusal.{Refusal}
use Rattle.refusal.specs.declared.Refusal.TheVariants.{ClockSpoiled, NoSuchAction}
use Rattle.base.specs.Choice.{◌if◌, first}
use Rattle.answers.specs.Answers.{done}
use Rattle.clock_rule.specs.declared.State.{State}
use Rattle.clock_activation.specs.declared.Activation.{Activation}
use Rattle.clock_activation.specs.Limits.{most_held}
use Rattle.clock_rule.specs.Numbers.{action_no}
use Rattle.clock_record.specs.Book.{fresh}
use Rattle.clock_record.specs.Words.{record_size, book_in, words_of}
use Rattle.clock.specs.declared.Clock.{Clock}
use Rattle.clock.specs.declared.Heard.{Heard}
use Rattle.clock.specs.Answered.{Answered}
use Rattle.clock.specs.Record.{left_by}
use Rattle.clock.specs.Offer.{offer_in}
use Rattle.clock.specs.Move.{move_in}
use Rattle.clock.specs.Ask.{time_in, state_in}
use Rattle.clock.specs.Codes.{heard_code, moved_code, time_code, state_code}

-- another number of words than 67 is no record, and a record that is none is spoiled
abbrev pub unsized : List ℕ → Bool
unsized w = not (eqb (length w) record_size)

abbrev pub record_of : List ℕ → Clock
record_of w = record { words = w }

unfoldable pub record_in : List ℕ → Result Clock Refusal
record_in w = first Err (ClockSpoiled if unsized w ∷ []) (Ok (record_of w))

-- what a call gives, and what it leaves in the words
pub record Left (A : Type 0) : Type 0 where
  pub answer : Result A Refusal
  pub words : List ℕ

-- a refused call leaves them as they were
abbrev pub refused : {A : Type 0} → List ℕ → Refusal → Left A
refused w r = record { answer = Err r; words = w }

-- an accepted offer, and an accepted move, puts its record into the words
abbrev pub left_in : {A : Type 0} → List ℕ → Answered A → Left A
left_in w r = record { answer = r.answer; words = (left_by (record_of w) r).words }

-- what a call answers in a number, and what it leaves in the words
pub record Called : Type 0 where
  pub answer : ℕ
  pub words : List ℕ

abbrev pub coded : {A : Type 0} → (Result A Refusal → ℕ) → Left A → Called
coded code l = record { answer = code l.answer; words = l.words }

abbrev pub unchanged : List ℕ → Refusal → Called
unchanged w r = record { answer = number r; words = w }

unfoldable pub fresh_on : List ℕ → Left (Unit {0})
fresh_on w = first (refused w) (ClockSpoiled if unsized w ∷ []) (record { answer = Ok tt; words = words_of fresh })

abbrev pub fresh_call : List ℕ → Called
fresh_call w = coded done (fresh_on w)

abbrev pub activation : ℕ → ℕ → ℕ → ℕ → Activation
activation application event action time = record { application = application; event = event; action = action_no action; time = time }

-- a number above 3 is no action, which is refused before all else (255)
unfoldable pub offer_on : List ℕ → ℕ → ℕ → ℕ → ℕ → Left Heard
offer_on w application event action time =
    first (refused w)
    (NoSuchAction if ltb 3 action ∷ ClockSpoiled if unsized w ∷ [])
    (left_in w (offer_in (book_in w) (activation application event action time)))

abbrev pub offer_call : List ℕ → ℕ → ℕ → ℕ → ℕ → Called
offer_call w application event action time = coded heard_code (offer_on w application event action time)

unfoldable pub move_on : List ℕ → ℕ → Left ℕ
move_on w to = first (refused w) (ClockSpoiled if unsized w ∷ []) (left_in w (move_in (book_in w) to))

-- an answer that counts at most as many as are held
abbrev pub FewIn : Result ℕ Refusal → Type 0
FewIn (Ok n) = n ≤ most_held
FewIn (Err r) = Unit {0}

abbrev pub move_call : List ℕ → ℕ → Called
move_call w to = coded moved_code (move_on w to)

-- the questions
unfoldable pub time_on : List ℕ → Result ℕ Refusal
time_on w = first Err (ClockSpoiled if unsized w ∷ []) (time_in (book_in w))

abbrev pub time_call : List ℕ → ℕ
time_call w = time_code (time_on w)

unfoldable pub state_on : List ℕ → ℕ → Result State Refusal
state_on w application = first Err (ClockSpoiled if unsized w ∷ []) (state_in (book_in w) application)

abbrev pub state_call : List ℕ → ℕ → ℕ
state_call w application = state_code (state_on w application)
