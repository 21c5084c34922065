-- A history of the host's calls on a clock that it lends in words, each call lent the words that the last one left, and the host's
-- own account of it, kept from the calls and the numbers that they answer.
use Rattle.std.specs.Prelude.{ℕ, ◌*◌, ◌/◌, ◌^◌, ◌<◌, List, [], ◌∷◌, ◌++◌, ltb, eqb, if◌then◌else◌, Ok}
use Rattle.refusal.specs.Refusal.{number}
use Rattle.refusal.specs.declared.Refusal.TheVariants.{NoSuchAction}
use Rattle.clock_record.specs.Book.{Book}
use Rattle.clock.specs.declared.Heard.{Heard}
use Rattle.clock.specs.Offer.{offer_in}
use Rattle.clock.specs.Move.{move_in}
use Rattle.clock.specs.Ask.{time_in, state_in}
use Rattle.clock.specs.Codes.{heard_code, moved_code, time_code, state_code, refusal_of}
use Rattle.clock_laws.specs.History.{Call, Account, nothing_yet, heard, passed}
use Rattle.clock_answers.specs.Calls.{activation, fresh_call, offer_call, move_call, time_call, state_call}

-- an offer has an application, an event, an action and a time, a move the time that it goes to, and the question for a
-- state an application
pub data HostCall : Type 0 where
  offer : ℕ → ℕ → ℕ → ℕ → HostCall
  move : ℕ → HostCall
  ask_time : HostCall
  ask_state : ℕ → HostCall

-- an offer's application and event have the widths of the boundary's types
abbrev pub Typed : HostCall → Type 0
Typed (HostCall.offer application event action time) = (application < 2 ^ 8) × (event < 2 ^ 16)
Typed (HostCall.move to) = Unit {0}
Typed HostCall.ask_time = Unit {0}
Typed (HostCall.ask_state n) = Unit {0}

-- what a call answers, and the words that it leaves, by the promises of the exported functions
abbrev pub answered : List ℕ → HostCall → ℕ
answered w (HostCall.offer application event action time) = (offer_call w application event action time).answer
answered w (HostCall.move to) = (move_call w to).answer
answered w HostCall.ask_time = time_call w
answered w (HostCall.ask_state n) = state_call w n

abbrev pub left : List ℕ → HostCall → List ℕ
left w (HostCall.offer application event action time) = (offer_call w application event action time).words
left w (HostCall.move to) = (move_call w to).words
left w HostCall.ask_time = w
left w (HostCall.ask_state n) = w

abbrev pub left_by : List ℕ → List HostCall → List ℕ
left_by w [] = w
left_by w (x ∷ h) = left_by (left w x) h

abbrev pub answered_by : List ℕ → List HostCall → List ℕ
answered_by w [] = []
answered_by w (x ∷ h) = answered w x ∷ answered_by (left w x) h

-- the layer's calls among the host's: a question changes nothing, and a number above 3 is no action
abbrev pub layer_call : HostCall → List Call
layer_call (HostCall.offer application event action time) =
    if ltb 3 action then [] else (Call.offer (activation application event action time) ∷ [])
layer_call (HostCall.move to) = Call.move to ∷ []
layer_call HostCall.ask_time = []
layer_call (HostCall.ask_state n) = []

abbrev pub layer_calls : List HostCall → List Call
layer_calls [] = []
layer_calls (x ∷ h) = layer_call x ++ layer_calls h

-- the number for the layer's answer, and what the layer's record then says
abbrev pub code_in : Book → HostCall → ℕ
code_in b (HostCall.offer application event action time) =
    if ltb 3 action then number NoSuchAction else heard_code (offer_in b (activation application event action time)).answer
code_in b (HostCall.move to) = moved_code (move_in b to).answer
code_in b HostCall.ask_time = time_code (time_in b)
code_in b (HostCall.ask_state n) = state_code (state_in b n)

abbrev pub book_after : Book → HostCall → Book
book_after b (HostCall.offer application event action time) =
    if ltb 3 action then b else (offer_in b (activation application event action time)).book
book_after b (HostCall.move to) = (move_in b to).book
book_after b HostCall.ask_time = b
book_after b (HostCall.ask_state n) = b

abbrev pub codes_by : Book → List HostCall → List ℕ
codes_by b [] = []
codes_by b (x ∷ h) = code_in b x ∷ codes_by (book_after b x) h

-- the host's account: an offer that is answered 1 from bit 8 was applied, one that is answered 2 waits; a move that is not
-- refused applies the waiting ones that it reaches
abbrev pub noted : Account → HostCall → ℕ → Account
noted k (HostCall.offer application event action time) n =
    if eqb n (1 * 2 ^ 8) then heard k (activation application event action time) (Ok Heard.Applied)
    else (if eqb n (2 * 2 ^ 8) then heard k (activation application event action time) (Ok Heard.Waiting)
    else k)
noted k (HostCall.move to) n = if eqb (refusal_of n) 0 then passed k to (Ok (n / 2 ^ 8)) else k
noted k HostCall.ask_time n = k
noted k (HostCall.ask_state m) n = k

pub record HostMoment : Type 0 where
  pub words : List ℕ
  pub account : Account

abbrev pub host_step : HostMoment → HostCall → HostMoment
host_step t x = record { words = left t.words x; account = noted t.account x (answered t.words x) }

abbrev pub host_steps : HostMoment → List HostCall → HostMoment
host_steps t [] = t
host_steps t (x ∷ h) = host_steps (host_step t x) h

-- a history from words that were made fresh
abbrev pub host_after : List ℕ → List HostCall → HostMoment
host_after w h = host_steps (record { words = (fresh_call w).words; account = nothing_yet }) h
