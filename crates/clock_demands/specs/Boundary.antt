-- Laws of the exported functions: a refused call leaves the words as they were, the low 8 bits of an answer are 0 exactly when the
-- call is accepted, and each value comes back out of the answer.
use Rattle.std.specs.Prelude.{ℕ, ◌/◌, ◌^◌, ◌<◌, ◌≤◌, ◌≡◌, ◌↔◌, List, leb, length, if◌then◌else◌}
use Rattle.refusal.specs.declared.Refusal.TheVariants.{NoSuchAction}
use Rattle.clock_rule.specs.Rule.{state_of}
use Rattle.clock_rule.specs.Numbers.{column_of}
use Rattle.clock_record.specs.Waiting.{due_of}
use Rattle.clock_record.specs.Words.{record_size, book_in}
use Rattle.clock.specs.Spoiled.{Spoiled}
use Rattle.clock.specs.Codes.{refusal_of}
use Rattle.clock_laws.specs.When.{NoneOffered}
use Rattle.clock_answers.specs.Calls.{Called, unchanged, activation, fresh_call, offer_call, move_call, time_call, state_call}

-- refused, the words are as they were
abbrev pub Untouched : List ℕ → Called → Type 0
Untouched w c = (refusal_of c.answer ≡ 0 → ⊥) → c.words ≡ w

pub record FreshLaws (w : List ℕ) : Type 0 where
  pub untouched : Untouched w (fresh_call w)
  pub accepted : (refusal_of (fresh_call w).answer ≡ 0) ↔ (length w ≡ record_size)

pub record OfferLaws (w : List ℕ) (application event action time : ℕ) : Type 0 where
  -- a number above 3 is no action: 255, whatever else is so
  pub no_action : 3 < action → offer_call w application event action time ≡ unchanged w NoSuchAction
  pub untouched : Untouched w (offer_call w application event action time)
  pub accepted : (refusal_of (offer_call w application event action time).answer ≡ 0)
      ↔ ((length w ≡ record_size) × (action ≤ 3) × NoneOffered (book_in w) (activation application event action time))
  -- 1 where it was applied on arrival, 2 where it waits
  pub tells : refusal_of (offer_call w application event action time).answer ≡ 0
      → (offer_call w application event action time).answer / 2 ^ 8 ≡ (if leb time (book_in w).now then 1 else 2)

pub record MoveLaws (w : List ℕ) (to : ℕ) : Type 0 where
  pub untouched : Untouched w (move_call w to)
  pub accepted : (refusal_of (move_call w to).answer ≡ 0) ↔ ((length w ≡ record_size) × (¬ Spoiled (book_in w)) × ((book_in w).now ≤ to))
  -- how many it applied, at most 32
  pub tells : refusal_of (move_call w to).answer ≡ 0
      → ((move_call w to).answer / 2 ^ 8 ≡ length (due_of to (book_in w).held)) × ((move_call w to).answer / 2 ^ 8 ≤ 32)

pub record TimeLaws (w : List ℕ) : Type 0 where
  pub accepted : (refusal_of (time_call w) ≡ 0) ↔ ((length w ≡ record_size) × (¬ Spoiled (book_in w)))
  pub tells : refusal_of (time_call w) ≡ 0 → time_call w / 2 ^ 32 ≡ (book_in w).now

pub record StateLaws (w : List ℕ) (n : ℕ) : Type 0 where
  pub accepted : (refusal_of (state_call w n) ≡ 0) ↔ ((length w ≡ record_size) × (¬ Spoiled (book_in w)) × (n ≤ 7))
  -- the state's number, below 4
  pub tells : refusal_of (state_call w n) ≡ 0
      → (state_call w n / 2 ^ 8 ≡ column_of (state_of (book_in w).apps n)) × (state_call w n / 2 ^ 8 < 4)
