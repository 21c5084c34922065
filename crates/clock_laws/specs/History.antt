-- A history of a clock, and its own account of what was accepted, applied and left waiting.
use Rattle.std.specs.Prelude.{ℕ, not, List, [], ◌∷◌, ◌++◌, Result, Ok, Err}
use Rattle.refusal.specs.declared.Refusal.{Refusal}
use Rattle.clock_activation.specs.declared.Activation.{Activation}
use Rattle.clock_activation.specs.Activation.{past}
use Rattle.clock_record.specs.Lists.{only_of}
use Rattle.clock_record.specs.Waiting.{reached}
use Rattle.clock_due.specs.Order.{sort_of}
use Rattle.clock.specs.declared.Heard.{Heard}
use Rattle.clock_record.specs.Book.{Book, fresh}
use Rattle.clock.specs.Offer.{offer_in}
use Rattle.clock.specs.Move.{move_in}
use Rattle.clock_laws.specs.When.{offer_refusal, move_refusal}

pub data Call : Type 0 where
  offer : Activation → Call
  move : ℕ → Call

-- where the last move went that was not refused; what was accepted, in the order of the offers; what was applied, in the order of
-- applying; and what still waits. It is kept from the calls and their answers alone
pub record Account : Type 0 where
  pub now : ℕ
  pub accepted : List Activation
  pub applied : List Activation
  pub waiting : List Activation

abbrev pub nothing_yet : Account
nothing_yet = record { now = 0; accepted = []; applied = []; waiting = [] }

-- what is held, by the account: those accepted whose time is not more than 60,000 before the clock, in the order of the offers
abbrev pub still_held : Account → List Activation
still_held k = only_of (λ a. not (past k.now a.time)) k.accepted

-- an offer answered `Applied` was applied, one answered `Waiting` waits, and a refused one is neither
abbrev pub heard : Account → Activation → Result Heard Refusal → Account
heard k a (Ok Heard.Applied) =
    record { now = k.now; accepted = k.accepted ++ (a ∷ []); applied = k.applied ++ (a ∷ []); waiting = k.waiting }
heard k a (Ok Heard.Waiting) =
    record { now = k.now; accepted = k.accepted ++ (a ∷ []); applied = k.applied; waiting = k.waiting ++ (a ∷ []) }
heard k a (Err r) = k

-- a move applies the waiting ones that it reaches, by time, then application, then event; the others still wait
abbrev pub passed : Account → ℕ → Result ℕ Refusal → Account
passed k to (Ok n) =
    record {
      now = to;
      accepted = k.accepted;
      applied = k.applied ++ sort_of (only_of (reached to) k.waiting);
      waiting = only_of (λ a. not (reached to a)) k.waiting;
    }
passed k to (Err r) = k

-- the record at a moment, and the account
pub record Moment : Type 0 where
  pub book : Book
  pub account : Account

abbrev pub step : Moment → Call → Moment
step t (Call.offer a) = record { book = (offer_in t.book a).book; account = heard t.account a (offer_in t.book a).answer }
step t (Call.move to) = record { book = (move_in t.book to).book; account = passed t.account to (move_in t.book to).answer }

abbrev pub steps : Moment → List Call → Moment
steps t [] = t
steps t (x ∷ h) = steps (step t x) h

-- a history from fresh
abbrev pub after : List Call → Moment
after h = steps (record { book = fresh; account = nothing_yet }) h

-- the refusal that the next call is answered with, 0 for none
abbrev pub refusal_next : Book → Call → ℕ
refusal_next b (Call.offer a) = offer_refusal b a
refusal_next b (Call.move to) = move_refusal b to
