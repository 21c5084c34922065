-- Each refusal is given exactly when document 01's table says so, in its order.
--   offering, moving                                        every answer has its reason
--   offer-when, move-when, time-when, state-when            each number is given exactly when its words hold
use Rattle.base.specs.Choice.{If◌then◌else◌}
use mathlib.Core.Path.{◌≡◌, refl, sym, ap, subst, ◌∙◌}
use mathlib.Core.Bool.{false}
use Prim.Native.Nat.{ℕ, ◌+◌, ◌*◌, ◌%◌, ◌^◌, ◌<◌, ◌≤◌}
use native.Mathlib.Omega.{arith}
use lib.Dec.{ltb, leb, eqb}
use lib.ListN.{length}
use borrow.Author.Tests.{le-leb, lt-leb, ltb-true, ltb-false, leb-true, leb-false, eqb-false}
use Rattle.base.proofs.Cases.{by, unlike}
use Rattle.refusal.specs.Refusal.{number}
use Rattle.refusal.specs.declared.Refusal.{Refusal}
use Rattle.refusal.specs.declared.Refusal.TheVariants.{ClockAbove, ClockMovedBack, ClockPast, ClockAlreadyHeld, ClockFull, ClockSpoiled}
use Rattle.clock_rule.specs.Rule.{above, state_of}
use Rattle.clock_rule.specs.Numbers.{column_of}
use Rattle.clock_activation.specs.declared.Activation.{Activation}
use Rattle.clock_activation.specs.Activation.{past}
use Rattle.clock_activation.specs.Limits.{memory, most_held}
use Rattle.clock_record.specs.Held.{is_held}
use Rattle.clock_record.specs.Waiting.{due_of}
use Rattle.clock.specs.declared.Heard.{Heard}
use Rattle.clock_record.specs.Book.{Book, spoiled}
use Rattle.clock.specs.Answered.{Answered}
use Rattle.clock.specs.Spoiled.{Holds, Spoiled}
use Rattle.clock.specs.Offer.{refused, offer_in}
use Rattle.clock.specs.Move.{move_in}
use Rattle.clock.specs.Move as Move
use Rattle.clock.specs.Ask.{time_in, state_in}
use Rattle.clock.specs.Codes.{heard_code, moved_code, refusal_of}
use Rattle.clock.proofs.Exits.{offer-35, offer-30, offer-32, offer-33, offer-34, offer-applies, offer-waits, move-35, move-31, move-advances}
use Rattle.clock_laws.specs.Ways.{Offering, Moving}
use Rattle.clock_laws.specs.When.{offer_refusal, move_refusal, NoneOffered, OfferWhen, MoveWhen, TimeWhen, StateWhen}
use Rattle.clock_laws.proofs.Words.{spoiled-says, spoiled-true, holds-says, holds-true}
use Rattle.clock_laws.proofs.Alike.{past-says, past-true, young-says, young-true}

-- a test that failed, and what it tests
sound-says : (b : Book) → spoiled b ≡ false → ¬ Spoiled b
sound-says b s x = unlike (sym (spoiled-true b x) ∙ s)

pub sound-true : (b : Book) → ¬ Spoiled b → spoiled b ≡ false
sound-true b n = by (spoiled b) (λ s. absurd (n (spoiled-says b s))) (λ s. s)

free-says : (b : Book) (a : Activation) → is_held a b.held ≡ false → ¬ Holds b a
free-says b a h x = unlike (sym (holds-true b a x) ∙ h)

pub free-true : (b : Book) (a : Activation) → ¬ Holds b a → is_held a b.held ≡ false
free-true b a n = by (is_held a b.held) (λ h. absurd (n (holds-says b a h))) (λ h. h)

low-says : (n : ℕ) → above n ≡ false → n ≤ 7
low-says n k = let h : n < 8 = leb-false _ _ k in omega arith

low-true : (n : ℕ) → n ≤ 7 → above n ≡ false
low-true n h = lt-leb 8 n (omega arith)

-- what is accepted has 0 in the low 8 bits
low-0 : (n : ℕ) → n * 2 ^ 8 % 2 ^ 8 ≡ 0
low-0 n = omega arith

module _ (b : Book) (a : Activation) where
  pub offering : Offering b a (offer_in b a)
  offering =
      by (spoiled b) (λ s. rw (offer-35 b a s) (Offering.spoiled (spoiled-says b s))) λ s.
      by (above a.application)
      (λ k. rw (offer-30 b a s k) (Offering.above (sound-says b s) (leb-true _ _ k))) λ k.
      by (past b.now a.time)
      (λ p. rw (offer-32 b a s k p) (Offering.past (sound-says b s) (low-says _ k) (past-says b.now a.time p))) λ p.
      by (is_held a b.held)
      (λ h.
      rw (offer-33 b a s k p h)
      (Offering.held (sound-says b s) (low-says _ k) (young-says b.now a.time p) (holds-says b a h))) λ h.
      by (leb most_held (length b.held))
      (λ f.
      rw (offer-34 b a s k p h (leb-true _ _ f))
      (Offering.full (sound-says b s) (low-says _ k) (young-says b.now a.time p) (free-says b a h) (leb-true _ _ f))) λ f.
      by (leb a.time b.now)
      (λ t.
      rw (offer-applies b a s k p h (leb-false _ _ f) (leb-true _ _ t))
      (Offering.now (sound-says b s) (low-says _ k) (young-says b.now a.time p) (free-says b a h) (leb-false _ _ f) (leb-true _ _ t)))
      (λ t.
      rw (offer-waits b a s k p h (leb-false _ _ f) (leb-false _ _ t))
      (Offering.later (sound-says b s) (low-says _ k) (free-says b a h) (leb-false _ _ f) (leb-false _ _ t)))

  given : (r : Refusal) → number r % 2 ^ 8 ≡ number r → offer_in b a ≡ refused b r → offer_refusal b a ≡ number r
  given r h e = ap (λ (x : Answered Heard). refusal_of (heard_code x.answer)) e ∙ h

  -- what each number says
  abbrev Says : ℕ → Type 0
  Says n =
      If eqb n 35 then Spoiled b
      else (If eqb n 30 then ¬ Spoiled b × (7 < a.application)
      else (If eqb n 32 then ¬ Spoiled b × (a.application ≤ 7) × (a.time + memory < b.now)
      else (If eqb n 33 then ¬ Spoiled b × (a.application ≤ 7) × (b.now ≤ a.time + memory) × Holds b a
      else (If eqb n 34 then ¬ Spoiled b × (a.application ≤ 7) × (b.now ≤ a.time + memory) × (¬ Holds b a) × (most_held ≤ length b.held)
      else (If eqb n 0 then NoneOffered b a
      else Unit {0})))))

  says : (x : Answered Heard) → Offering b a x → Says (refusal_of (heard_code x.answer))
  says x (Offering.spoiled s) = s
  says x (Offering.above s k) = (s, k)
  says x (Offering.past s k p) = (s, k, p)
  says x (Offering.held s k p h) = (s, k, p, h)
  says x (Offering.full s k p h f) = (s, k, p, h, f)
  says x (Offering.now s k p h f t) = (s, k, p, h, f)
  says x (Offering.later s k h f t) = (s, k, omega arith, h, f)

  why : (n : ℕ) → offer_refusal b a ≡ n → Says n
  why n e = subst Says e (says (offer_in b a) offering)

  taken : (x : Answered Heard) → offer_in b a ≡ x → refusal_of (heard_code x.answer) ≡ 0 → offer_refusal b a ≡ 0
  taken x e z = ap (λ (y : Answered Heard). refusal_of (heard_code y.answer)) e ∙ z

  free : NoneOffered b a → offer_refusal b a ≡ 0
  free w =
      let s = sound-true b w.0 in
      let k = low-true _ w.1 in
      let p = young-true b.now a.time w.2 in
      let h = free-true b a w.3 in
      by (leb a.time b.now)
      (λ t. taken _ (offer-applies b a s k p h w.4 (leb-true _ _ t)) refl)
      (λ t. taken _ (offer-waits b a s k p h w.4 (leb-false _ _ t)) refl)

  pub offer-when : OfferWhen b a
  offer-when =
      record {
        no35 = (λ e. why 35 e, λ s. given ClockSpoiled refl (offer-35 b a (spoiled-true b s)));
        no30 = (λ e. why 30 e, λ w. given ClockAbove refl (offer-30 b a (sound-true b w.0) (le-leb 8 _ w.1)));
        no32 = (
          λ e. why 32 e,
          λ w. given ClockPast refl (offer-32 b a (sound-true b w.0) (low-true _ w.1) (past-true b.now a.time w.2)),
        );
        no33 = (
          λ e. why 33 e,
          λ w.
              given ClockAlreadyHeld refl
              (offer-33 b a (sound-true b w.0) (low-true _ w.1) (young-true b.now a.time w.2) (holds-true b a w.3)),
        );
        no34 = (
          λ e. why 34 e,
          λ w.
              given ClockFull refl
              (offer-34 b a (sound-true b w.0) (low-true _ w.1) (young-true b.now a.time w.2) (free-true b a w.3) w.4),
        );
        none = (λ e. why 0 e, free);
      }

module _ (b : Book) (to : ℕ) where
  pub moving : Moving b to (move_in b to)
  moving =
      by (spoiled b) (λ s. rw (move-35 b to s) (Moving.spoiled (spoiled-says b s))) λ s.
      by (ltb to b.now)
      (λ t. rw (move-31 b to s (ltb-true _ _ t)) (Moving.back (sound-says b s) (ltb-true _ _ t)))
      (λ t. rw (move-advances b to s (ltb-false _ _ t)) (Moving.on (sound-says b s) (ltb-false _ _ t)))

  moved : (r : Refusal) → number r % 2 ^ 8 ≡ number r → move_in b to ≡ Move.refused b r → move_refusal b to ≡ number r
  moved r h e = ap (λ (x : Answered ℕ). refusal_of (moved_code x.answer)) e ∙ h

  abbrev Told : ℕ → Type 0
  Told n = If eqb n 35 then Spoiled b else (If eqb n 31 then ¬ Spoiled b × (to < b.now) else (If eqb n 0 then ¬ Spoiled b × (b.now ≤ to) else Unit {0}))

  told : (x : Answered ℕ) → Moving b to x → Told (refusal_of (moved_code x.answer))
  told x (Moving.spoiled s) = s
  told x (Moving.back s t) = (s, t)
  told x (Moving.on s t) = subst Told (sym (low-0 (length (due_of to b.held)))) (s, t)

  reason : (n : ℕ) → move_refusal b to ≡ n → Told n
  reason n e = subst Told e (told (move_in b to) moving)

  pub move-when : MoveWhen b to
  move-when =
      record {
        no35 = (λ e. reason 35 e, λ s. moved ClockSpoiled refl (move-35 b to (spoiled-true b s)));
        no31 = (λ e. reason 31 e, λ w. moved ClockMovedBack refl (move-31 b to (sound-true b w.0) w.1));
        none = (
          λ e. reason 0 e,
          λ w.
              ap (λ (x : Answered ℕ). refusal_of (moved_code x.answer)) (move-advances b to (sound-true b w.0) w.1)
              ∙ low-0 (length (due_of to b.held)),
        );
      }

module _ (b : Book) where
  pub time-when : TimeWhen b
  unfolding time_in
  time-when = (
    λ e. by (spoiled b) (λ s. spoiled-says b s) (λ s. absurd (let f : b.now * 2 ^ 32 % 2 ^ 8 ≡ 35 = rw s at e in omega arith)),
    λ s. rw (spoiled-true b s),
  )

  module _ (n : ℕ) where
    pub state-when : StateWhen b n
    unfolding state_in
    state-when =
        record {
          no35 = (
            λ e.
                by (spoiled b) (λ s. spoiled-says b s) λ s.
                by (above n) (λ k. absurd (eqb-false 30 35 refl (rw (s, k) at e)))
                (λ k. absurd (let f : column_of (state_of b.apps n) * 2 ^ 8 % 2 ^ 8 ≡ 35 = rw (s, k) at e in omega arith)),
            λ s. rw (spoiled-true b s),
          );
          no30 = (
            λ e.
                by (spoiled b) (λ s. absurd (eqb-false 35 30 refl (rw s at e))) λ s.
                by (above n) (λ k. (sound-says b s, leb-true _ _ k))
                (λ k. absurd (let f : column_of (state_of b.apps n) * 2 ^ 8 % 2 ^ 8 ≡ 30 = rw (s, k) at e in omega arith)),
            λ w. rw (sound-true b w.0, le-leb 8 n w.1),
          );
        }
