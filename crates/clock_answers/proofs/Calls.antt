-- Each way out of a call on a clock that is lent in words: what leads to it, and what the call then is.
--   as-record, not-record, is-record, no-record        whether the words are a record
--   is-action, no-action                               whether a number is an action's
--   kept                                               a refused call leaves the record that was lent
--   fresh-35, fresh-put                                of a fresh clock
--   offer-255, offer-35, offer-answered                of an offer
--   move-35, move-answered, few                        of a move, which applies at most 32
--   time-35, time-asked, state-35, state-asked         of the questions
use mathlib.Core.Path.{◌≡◌, sym, ap}
use mathlib.Core.List.{List, [], ◌∷◌}
use Prim.Native.Nat.{ℕ, ◌<◌, ◌≤◌}
use native.Mathlib.Omega.{arith}
use lib.Dec.{ltb, eqb}
use lib.ListN.{length}
use borrow.Author.Tests.{lt-ltb, le-ltb, eq-eqb, ne_eqb, eqb-true, eqb-false, ltb-true, ltb-false}
use Rattle.std.specs.Prelude.{Result, Ok, Err, if◌then◌else◌}
use Rattle.refusal.specs.declared.Refusal.{Refusal}
use Rattle.refusal.specs.declared.Refusal.TheVariants.{ClockSpoiled, NoSuchAction}
use Rattle.base.specs.Choice.{◌if◌}
use Rattle.base.proofs.Cases.{by}
use Rattle.base.proofs.Tables.{among}
use Rattle.clock_rule.specs.declared.Action.{Action}
use Rattle.clock_rule.specs.Numbers.{action_no}
use Rattle.clock_record.specs.Book.{Book, fresh}
use Rattle.clock_record.specs.Words.{book_in, words_of}
use Rattle.clock_record.proofs.Waiting.{due-fewer}
use Rattle.clock_record.proofs.Back.{sized}
use Rattle.clock.specs.declared.Clock.{Clock}
use Rattle.clock.specs.declared.Heard.{Heard}
use Rattle.clock.specs.declared.Handed.{Handed}
use Rattle.clock_activation.specs.declared.Activation.{Activation}
use Rattle.clock.specs.Answered.{Answered}
use Rattle.clock.specs.Offer.{offer_in}
use Rattle.clock.specs.Move.{faults, advanced, move_in}
use Rattle.clock.specs.Move as Move
use Rattle.clock.specs.Ask.{time_in, state_in}
use Rattle.clock.specs.Record.{book_of, left_with, left_by, offer_to, move_to}
use Rattle.clock_answers.specs.Calls.{unsized, record_of, record_in, Left, refused, left_in, FewIn, fresh_on, offer_on, move_on, time_on, state_on}

ok-same : {A : Type 0} {x y : A} → ◌≡◌ {A = Result A Refusal} (Ok x) (Ok y) → x ≡ y
ok-same e = cc

err_same : {A : Type 0} {r s : Refusal} → ◌≡◌ {A = Result A Refusal} (Err r) (Err s) → r ≡ s
err_same e = cc

ok-err : {A : Type 0} {x : A} {r : Refusal} → ◌≡◌ {A = Result A Refusal} (Ok x) (Err r) → ⊥
ok-err e = cc

module _ (w : List ℕ) where
  pub as-record : (l : List ℕ) → length w ≡ 67 → l ≡ w → Ok (record { words = l }) ≡ record_in w
  unfolding record_in
  as-record l z e = rw (eq-eqb _ _ z, e)

  pub not-record : (length w ≡ 67 → ⊥) → Err ClockSpoiled ≡ record_in w
  unfolding record_in
  not-record n = rw (ne_eqb _ _ n)

  pub is-record : {c : Clock} → Ok c ≡ record_in w → (length w ≡ 67) × (c ≡ record_of w)
  unfolding record_in
  is-record e =
      by (eqb (length w) 67)
      (λ t. (eqb-true _ _ t, ok-same (rw t at e)))
      (λ t. absurd (ok-err (rw t at e)))

  pub no-record : {r : Refusal} → Err r ≡ record_in w → (length w ≡ 67 → ⊥) × (r ≡ ClockSpoiled)
  unfolding record_in
  no-record e =
      by (eqb (length w) 67)
      (λ t. absurd (ok-err (sym (rw t at e))))
      (λ t. (eqb-false _ _ t, err_same (rw t at e)))

  pub fresh-35 : (length w ≡ 67 → ⊥) → refused w ClockSpoiled ≡ fresh_on w
  unfolding fresh_on
  fresh-35 n = rw (ne_eqb _ _ n)

  pub fresh-put : length w ≡ 67 → record { answer = Ok tt; words = words_of fresh } ≡ fresh_on w
  unfolding fresh_on
  fresh-put z = rw (eq-eqb _ _ z)

-- what is handed back is the answer and the record of what the call makes
pub offer-told : (c : Clock) (a : Activation) (h : Handed Heard) → h ≡ offer_to c a
    → (h.answer ≡ (offer_in (book_of c) a).answer) × (h.clock ≡ left_by c (offer_in (book_of c) a))
unfolding offer_to
offer-told c a h e = (ap (λ x. x.answer) e, ap (λ x. x.clock) e)

pub move-told : (c : Clock) (to : ℕ) (h : Handed ℕ) → h ≡ move_to c to
    → (h.answer ≡ (move_in (book_of c) to).answer) × (h.clock ≡ left_by c (move_in (book_of c) to))
unfolding move_to
move-told c to h e = (ap (λ x. x.answer) e, ap (λ x. x.clock) e)

-- whether a number is an action's
module _ (n : ℕ) where
  pub is-action : {x : Action} → Ok x ≡ (if ltb 3 n then Err NoSuchAction else Ok (action_no n)) → (n ≤ 3) × (x ≡ action_no n)
  is-action e = by (ltb 3 n) (λ t. absurd (ok-err (rw t at e))) (λ t. (ltb-false _ _ t, ok-same (rw t at e)))

  pub no-action : {r : Refusal} → Err r ≡ (if ltb 3 n then Err NoSuchAction else Ok (action_no n)) → (3 < n) × (r ≡ NoSuchAction)
  no-action e = by (ltb 3 n) (λ t. (ltb-true _ _ t, err_same (rw t at e))) (λ t. absurd (ok-err (sym (rw t at e))))

-- a refused one leaves the record that was lent
pub kept : {A : Type 0} (c : Clock) (x : Result A Refusal) (b : Book) (r : Refusal) → x ≡ Err r → left_with c x b ≡ c
kept c x b r e = rw e

module _ (w : List ℕ) (application event action time : ℕ) where
  pub offer-255 : 3 < action → refused w NoSuchAction ≡ offer_on w application event action time
  unfolding offer_on
  offer-255 h = rw (lt-ltb _ _ h)

  module _ (h : action ≤ 3) where
    pub offer-35 : (length w ≡ 67 → ⊥) → refused w ClockSpoiled ≡ offer_on w application event action time
    unfolding offer_on
    offer-35 n = rw (le-ltb _ _ h, ne_eqb _ _ n)

    module _ (z : length w ≡ 67) (c : Clock) (k : c ≡ record_of w) (x : Action) (q : x ≡ action_no action) where
      abbrev pub heard : Answered Heard
      heard = offer_in (book_of c) (record { application = application; event = event; action = x; time = time })

      pub offer-answered : record { answer = heard.answer; words = (left_by c heard).words } ≡ offer_on w application event action time
      unfolding offer_on
      offer-answered = rw (k, q, le-ltb _ _ h, eq-eqb _ _ z)

move-few : (b : Book) (to : ℕ) → length b.held ≤ 32 → FewIn (move_in b to).answer
unfolding move_in
move-few b to h = among (Move.refused b) (λ (a : Answered ℕ). FewIn a.answer) (faults b to) (advanced b to) (tt, (tt, tt)) (omega (arith, due-fewer to b.held))

module _ (w : List ℕ) (to : ℕ) where
  pub move-35 : (length w ≡ 67 → ⊥) → refused w ClockSpoiled ≡ move_on w to
  unfolding move_on
  move-35 n = rw (ne_eqb _ _ n)

  pub move-answered : length w ≡ 67 → (c : Clock) → c ≡ record_of w
      → record { answer = (move_in (book_of c) to).answer; words = (left_by c (move_in (book_of c) to)).words } ≡ move_on w to
  unfolding move_on
  move-answered z c k = rw (k, eq-eqb _ _ z)

  pub few : FewIn (move_on w to).answer
  unfolding move_on
  few =
      among (refused w) (λ (l : Left ℕ). FewIn l.answer) (ClockSpoiled if unsized w ∷ []) (left_in w (move_in (book_in w) to))
      (tt, tt) (move-few (book_in w) to (sized w).held)

module _ (w : List ℕ) where
  pub time-35 : (length w ≡ 67 → ⊥) → Err ClockSpoiled ≡ time_on w
  unfolding time_on
  time-35 n = rw (ne_eqb _ _ n)

  pub time-asked : length w ≡ 67 → (c : Clock) → c ≡ record_of w → time_in (book_of c) ≡ time_on w
  unfolding time_on
  time-asked z c e = rw (eq-eqb _ _ z, e)

  pub state-35 : (n : ℕ) → (length w ≡ 67 → ⊥) → Err ClockSpoiled ≡ state_on w n
  unfolding state_on
  state-35 n h = rw (ne_eqb _ _ h)

  pub state-asked : (n : ℕ) → length w ≡ 67 → (c : Clock) → c ≡ record_of w → state_in (book_of c) n ≡ state_on w n
  unfolding state_on
  state-asked n z c e = rw (eq-eqb _ _ z, e)
