-- What a clock promises over a history.
use Rattle.std.specs.Prelude.{◌+◌, ◌<◌, ◌≤◌, ◌≡◌, true, false, ◌⊎◌, ◌++◌, map}
use Rattle.refusal.specs.declared.Refusal.TheVariants.{ClockAlreadyHeld}
use Rattle.clock_rule.specs.Rule.{above}
use Rattle.clock_activation.specs.declared.Activation.{Activation}
use Rattle.clock_activation.specs.declared.Held.{Held}
use Rattle.clock_activation.specs.Activation.{past}
use Rattle.clock_activation.specs.Limits.{memory}
use Rattle.clock_record.specs.Lists.{All, Rearranged}
use Rattle.clock_record.specs.Held.{is_held}
use Rattle.clock_record.specs.Waiting.{waiting_of}
use Rattle.clock_due.specs.Order.{run_of}
use Rattle.clock_record.specs.Book.{Book, fresh, spoiled}
use Rattle.clock.specs.Spoiled.{One}
use Rattle.clock.specs.Offer.{offer_in, refused}
use Rattle.clock_laws.specs.Distinct.{Distinct}
use Rattle.clock_laws.specs.History.{Moment, still_held}

pub record Kept (t : Moment) : Type 0 where
  -- the record is not spoiled
  pub sound : spoiled t.book ≡ false
  -- its clock stands where the account's last move went
  pub clock : t.book.now ≡ t.account.now
  -- each accepted activation is applied exactly once or still waits: no two accepted are alike, and those applied
  -- with those that wait are the accepted in some order. `once` the account keeps by itself, `distinct` is the record's doing; that the
  -- record goes with the account is `sound`, `clock`, `waits`, `states` and `exact`
  pub distinct : Distinct t.account.accepted
  pub once : Rearranged t.account.accepted (t.account.applied ++ t.account.waiting)
  -- it waits only while its time is ahead of the clock
  pub ahead : All (λ a. t.book.now < a.time) t.account.waiting
  -- the record holds as waiting what the account has waiting
  pub waits : waiting_of t.book.held ≡ t.account.waiting
  -- the states are what the account's applied ones, in their order, have made of all Released
  pub states : t.book.apps ≡ run_of fresh.apps t.account.applied
  -- an accepted activation is for one of the applications, and is held until its time is more than 60,000 before the clock
  pub known : All (λ a. above a.application ≡ false) t.account.accepted
  pub held : All (λ a. (is_held a t.book.held ≡ true) ⊎ (past t.book.now a.time ≡ true)) t.account.accepted
  -- and what is held is that and no more, in the order of the offers
  pub exact : map (λ (h : Held). h.activation) t.book.held ≡ still_held t.account

-- offered again within its memory, with whatever action: 33, and nothing changes
abbrev pub Again : Book → Activation → Type 0
Again b x = (a : Activation) → One a x → b.now ≤ a.time + memory → offer_in b a ≡ refused b ClockAlreadyHeld
