-- A property of what a call gives, by the ways out of the call.
--   offer-cases, move-cases
use mathlib.Core.Path.{◌≡◌}
use mathlib.Core.Bool.{false}
use Prim.Native.Nat.{ℕ, ◌<◌, ◌≤◌}
use lib.Dec.{ltb, leb}
use lib.ListN.{length}
use borrow.Author.Tests.{ltb-true, ltb-false, leb-true, leb-false}
use Rattle.base.proofs.Cases.{by}
use Rattle.refusal.specs.declared.Refusal.{Refusal}
use Rattle.refusal.specs.declared.Refusal.TheVariants.{ClockAbove, ClockMovedBack, ClockPast, ClockAlreadyHeld, ClockFull, ClockSpoiled}
use Rattle.clock_rule.specs.Rule.{above}
use Rattle.clock_activation.specs.declared.Activation.{Activation}
use Rattle.clock_activation.specs.Activation.{past}
use Rattle.clock_activation.specs.Limits.{most_held}
use Rattle.clock_record.specs.Held.{is_held}
use Rattle.clock.specs.declared.Heard.{Heard}
use Rattle.clock_record.specs.Book.{Book, spoiled}
use Rattle.clock.specs.Answered.{Answered}
use Rattle.clock.specs.Offer.{refused, applies, waits, offer_in}
use Rattle.clock.specs.Move.{advanced, move_in}
use Rattle.clock.specs.Move as Move
use Rattle.clock.proofs.Exits.{offer-35, offer-30, offer-32, offer-33, offer-34, offer-applies, offer-waits, move-35, move-31, move-advances}

-- an offer that is accepted
pub record Accepts (b : Book) (a : Activation) : Type 0 where
  pub sound : spoiled b ≡ false
  pub known : above a.application ≡ false
  pub young : past b.now a.time ≡ false
  pub free : is_held a b.held ≡ false
  pub room : length b.held < most_held

pub offer-cases : (b : Book) (a : Activation) (Q : Answered Heard → Type 0)
    → ((r : Refusal) → Q (refused b r))
    → (Accepts b a → a.time ≤ b.now → Q (applies b a))
    → (Accepts b a → b.now < a.time → Q (waits b a))
    → Q (offer_in b a)
offer-cases b a Q left now later =
    by (spoiled b) (λ s. rw (offer-35 b a s) (left ClockSpoiled)) λ s.
    by (above a.application) (λ k. rw (offer-30 b a s k) (left ClockAbove)) λ k.
    by (past b.now a.time) (λ p. rw (offer-32 b a s k p) (left ClockPast)) λ p.
    by (is_held a b.held) (λ h. rw (offer-33 b a s k p h) (left ClockAlreadyHeld)) λ h.
    by (leb most_held (length b.held)) (λ f. rw (offer-34 b a s k p h (leb-true _ _ f)) (left ClockFull)) λ f.
    let fine : Accepts b a = record { sound = s; known = k; young = p; free = h; room = leb-false _ _ f } in
    by (leb a.time b.now)
    (λ t. rw (offer-applies b a s k p h fine.room (leb-true _ _ t)) (now fine (leb-true _ _ t)))
    (λ t. rw (offer-waits b a s k p h fine.room (leb-false _ _ t)) (later fine (leb-false _ _ t)))

pub move-cases : (b : Book) (to : ℕ) (Q : Answered ℕ → Type 0)
    → ((r : Refusal) → Q (Move.refused b r))
    → (spoiled b ≡ false → b.now ≤ to → Q (advanced b to))
    → Q (move_in b to)
move-cases b to Q left on =
    by (spoiled b) (λ s. rw (move-35 b to s) (left ClockSpoiled)) λ s.
    by (ltb to b.now)
    (λ t. rw (move-31 b to s (ltb-true _ _ t)) (left ClockMovedBack))
    (λ t. rw (move-advances b to s (ltb-false _ _ t)) (on s (ltb-false _ _ t)))
