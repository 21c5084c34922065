-- What is demanded of the clock over any history of the host's calls, from 67 words that were made fresh.
use Rattle.std.specs.Prelude.{ℕ, ◌+◌, ◌≤◌, ◌≡◌, List, [], ◌∷◌, ltb, leb, length, if◌then◌else◌, Ok}
use Rattle.refusal.specs.Refusal.{number}
use Rattle.refusal.specs.declared.Refusal.TheVariants.{ClockAbove, ClockMovedBack, ClockPast, ClockAlreadyHeld, ClockFull, NoSuchAction}
use Rattle.base.specs.Choice.{◌if◌, first}
use Rattle.clock_rule.specs.Rule.{above, state_of}
use Rattle.clock_activation.specs.declared.Activation.{Activation}
use Rattle.clock_activation.specs.Activation.{alike, past}
use Rattle.clock_activation.specs.Limits.{memory, most_held}
use Rattle.clock_record.specs.Lists.{All, any_of, only_of}
use Rattle.clock_record.specs.Waiting.{reached}
use Rattle.clock_record.specs.Book.{fresh}
use Rattle.clock_record.specs.Words.{record_size, book_in}
use Rattle.clock_due.specs.Order.{run_of}
use Rattle.clock.specs.Spoiled.{One}
use Rattle.clock.specs.declared.Heard.{Heard}
use Rattle.clock.specs.Codes.{refusal_of, heard_code, moved_code, time_code, state_code}
use Rattle.clock_laws.specs.History.{Account, still_held, after}
use Rattle.clock_laws.specs.Promise.{Kept}
use Rattle.clock_answers.specs.Calls.{activation, unchanged, fresh_call, offer_call, move_call, time_call, state_call}
use Rattle.clock_demands.specs.Host.{HostCall, Typed, answered, left_by, answered_by, layer_calls, codes_by, host_after}

-- the words are the record of the layer's history of the same calls, every answer is the number for that history's answer, and
-- the host's account is that history's
pub record HostHistory (w : List ℕ) (h : List HostCall) : Type 0 where
  pub long : length (left_by (fresh_call w).words h) ≡ record_size
  pub book : book_in (left_by (fresh_call w).words h) ≡ (after (layer_calls h)).book
  pub answers : answered_by (fresh_call w).words h ≡ codes_by fresh h
  pub words : (host_after w h).words ≡ left_by (fresh_call w).words h
  pub account : (host_after w h).account ≡ (after (layer_calls h)).account

-- each accepted activation is applied exactly once or still waits, and it waits only while its time is ahead of the clock; this
-- and more, of the host's account and of what the words say
abbrev pub HostKept : List ℕ → List HostCall → Type 0
HostKept w h = Kept (record { book = book_in (host_after w h).words; account = (host_after w h).account })

-- no call after a history, and so none in one, is answered 35
abbrev pub Never35 : List ℕ → List HostCall → Type 0
Never35 w h = (x : HostCall) → refusal_of (answered (host_after w h).words x) ≡ 35 → ⊥

-- an accepted activation that is offered again within its memory, with whatever action, is answered 33 and changes nothing
abbrev pub HostAgain : List ℕ → Activation → Type 0
HostAgain w a =
    (application event action time : ℕ) → action ≤ 3 → One (activation application event action time) a → (book_in w).now ≤ time + memory
    → offer_call w application event action time ≡ unchanged w ClockAlreadyHeld

abbrev pub Accepted33 : List ℕ → List HostCall → Type 0
Accepted33 w h = All (HostAgain (host_after w h).words) (host_after w h).account.accepted

-- the time that is answered is where the last move went that was not refused, and 0 before there is one
abbrev pub TimeTold : List ℕ → List HostCall → Type 0
TimeTold w h = time_call (host_after w h).words ≡ time_code (Ok (host_after w h).account.now)

-- a move to before that time is refused 31; any other answers how many it reaches of those that were accepted and not yet applied
abbrev pub MoveTold : List ℕ → List HostCall → Type 0
MoveTold w h =
    (to : ℕ)
    → (move_call (host_after w h).words to).answer
    ≡ (if ltb to (host_after w h).account.now then number ClockMovedBack
    else moved_code (Ok (length (only_of (reached to) (host_after w h).account.waiting))))

-- an application above 7 is refused 30; of any other the state is answered that the applied ones, in their order, have made of
-- all Released
abbrev pub StateTold : List ℕ → List HostCall → Type 0
StateTold w h =
    (n : ℕ)
    → state_call (host_after w h).words n
    ≡ (if above n then number ClockAbove
    else state_code (Ok (state_of (run_of fresh.apps (host_after w h).account.applied) n)))

-- what an offer is answered, by the account: the refusals 30, 32, 33 and 34 in document 01's order, where held are the accepted ones whose time
-- is not more than 60,000 before the clock; any other is applied if the clock has reached its time, and waits if not
abbrev pub offer_told : Account → Activation → ℕ
offer_told k a =
    first number
    (ClockAbove if above a.application
    ∷ ClockPast if past k.now a.time
    ∷ ClockAlreadyHeld if any_of (alike a) (still_held k)
    ∷ ClockFull if leb most_held (length (still_held k))
    ∷ [])
    (heard_code (if reached k.now a then Ok Heard.Applied else Ok Heard.Waiting))

-- so is every offer; a number above 3 is no action, and is told 255 before all else
abbrev pub OfferTold : List ℕ → List HostCall → Type 0
OfferTold w h =
    (application event action time : ℕ)
    → (offer_call (host_after w h).words application event action time).answer
    ≡ (if ltb 3 action then number NoSuchAction else offer_told (host_after w h).account (activation application event action time))

-- all of it
pub record Demanded (w : List ℕ) (h : List HostCall) : Type 0 where
  pub history : HostHistory w h
  pub kept : HostKept w h
  pub never_35 : Never35 w h
  pub accepted_33 : Accepted33 w h
  pub time_told : TimeTold w h
  pub move_told : MoveTold w h
  pub state_told : StateTold w h
  pub offer-told : OfferTold w h

abbrev pub ClockDemands : Type 0
ClockDemands = (w : List ℕ) → length w ≡ record_size → (h : List HostCall) → All Typed h → Demanded w h
