-- Laws of the exported functions.
--   answered-code                                                     an answer is the number for the layer's answer
--   fresh-laws, offer-laws, move-laws, time-laws, state-laws
use Rattle.std.specs.Prelude.{if◌then◌else◌, Result, Ok, Err}
use mathlib.Core.Path.{◌≡◌, refl, sym, ap, subst, ◌∙◌}
use mathlib.Core.Bool.{true, false}
use mathlib.Core.List.{List}
use Prim.Native.Nat.{ℕ, ◌*◌, ◌/◌, ◌%◌, ◌^◌, ◌<◌, ◌≤◌}
use native.Mathlib.Omega.{arith}
use lib.Dec.{ltb, leb, eqb}
use lib.ListN.{length}
use borrow.Author.Tests.{lt-ltb, eq-eqb, ne_eqb, le-ltb, ltb-false, eqb-true, eqb-false, leb-true, leb-false, lt-leb}
use Rattle.refusal.specs.Refusal.{number}
use Rattle.refusal.specs.declared.Refusal.{Refusal}
use Rattle.refusal.specs.declared.Refusal.TheVariants.{ClockSpoiled, NoSuchAction}
use Rattle.base.specs.Choice.{◌if◌}
use Rattle.base.proofs.Cases.{by}
use Rattle.clock_rule.specs.declared.State.{State}
use Rattle.clock_rule.specs.Rule.{state_of}
use Rattle.clock_rule.specs.Numbers.{column_of}
use Rattle.clock_activation.specs.declared.Activation.{Activation}
use Rattle.clock_record.specs.Waiting.{due_of}
use Rattle.clock_record.specs.Book.{Book, fresh}
use Rattle.clock_record.specs.Words.{record_size, book_in, words_of}
use Rattle.clock_record.proofs.Waiting.{due-fewer}
use Rattle.clock_record.proofs.Back.{sized}
use Rattle.clock.specs.declared.Heard.{Heard}
use Rattle.clock.specs.Spoiled.{Spoiled}
use Rattle.clock.specs.Answered.{Answered}
use Rattle.clock.specs.Offer.{offer_in}
use Rattle.clock.specs.Move.{move_in}
use Rattle.clock.specs.Ask.{time_in, state_in}
use Rattle.clock.specs.Codes.{heard_code, moved_code, time_code, state_code, refusal_of}
use Rattle.clock.proofs.Exits.{offer-applies, offer-waits, move-advances}
use Rattle.clock_laws.specs.When.{NoneOffered}
use Rattle.clock_laws.proofs.Alike.{young-true}
use Rattle.clock_laws.proofs.Exactly.{sound-true, free-true, offer-when, move-when, time-when, state-when}
use Rattle.clock_laws.proofs.Codes.{values}
use Rattle.clock_answers.specs.Calls.{Called, unchanged, activation, coded, left_in, fresh_on, offer_on, move_on, time_on, state_on, fresh_call, offer_call, move_call, time_call, state_call}
use Rattle.clock_demands.specs.Host.{HostCall, answered, code_in}
use Rattle.clock_demands.specs.Boundary.{Untouched, FreshLaws, OfferLaws, MoveLaws, TimeLaws, StateLaws}

-- the ways out of a call that is lent 67 words
module _ (w : List ℕ) (p e x t : ℕ) where
  pub offer-no : ltb 3 x ≡ true → offer_call w p e x t ≡ unchanged w NoSuchAction
  unfolding offer_on
  offer-no h = rw h

  pub offer-on : length w ≡ 67 → ltb 3 x ≡ false → offer_call w p e x t ≡ coded heard_code (left_in w (offer_in (book_in w) (activation p e x t)))
  unfolding offer_on
  offer-on z h = rw (h, eq-eqb _ _ z)

pub move-on : (w : List ℕ) (to : ℕ) → length w ≡ 67 → move_call w to ≡ coded moved_code (left_in w (move_in (book_in w) to))
unfolding move_on
move-on w to z = rw (eq-eqb _ _ z)

time-on : (w : List ℕ) → length w ≡ 67 → time_call w ≡ time_code (time_in (book_in w))
unfolding time_on
time-on w z = rw (eq-eqb _ _ z)

state-on : (w : List ℕ) (n : ℕ) → length w ≡ 67 → state_call w n ≡ state_code (state_in (book_in w) n)
unfolding state_on
state-on w n z = rw (eq-eqb _ _ z)

-- the number that they answer is that for the layer's answer
pub answered-code : (w : List ℕ) → length w ≡ 67 → (x : HostCall) → answered w x ≡ code_in (book_in w) x
answered-code w z (HostCall.offer p e x t) =
    by (ltb 3 x)
    (λ h. ap (λ (c : Called). c.answer) (offer-no w p e x t h) ∙ rw h)
    (λ h.
    ap (λ (c : Called). c.answer) (offer-on w p e x t z h)
    ∙ rw h)
answered-code w z (HostCall.move to) =
    ap (λ (c : Called). c.answer) (move-on w to z)
answered-code w z HostCall.ask_time = time-on w z
answered-code w z (HostCall.ask_state n) = state-on w n z

-- another number of words
fresh-off : (w : List ℕ) → (length w ≡ 67 → ⊥) → fresh_call w ≡ unchanged w ClockSpoiled
unfolding fresh_on
fresh-off w n = rw (ne_eqb _ _ n)

fresh-67 : (w : List ℕ) → length w ≡ 67 → fresh_call w ≡ record { answer = 0; words = words_of fresh }
unfolding fresh_on
fresh-67 w z = rw (eq-eqb _ _ z)

offer-off : (w : List ℕ) (p e x t : ℕ) → ltb 3 x ≡ false → (length w ≡ 67 → ⊥) → offer_call w p e x t ≡ unchanged w ClockSpoiled
unfolding offer_on
offer-off w p e x t h n = rw (h, ne_eqb _ _ n)

move-off : (w : List ℕ) (to : ℕ) → (length w ≡ 67 → ⊥) → move_call w to ≡ unchanged w ClockSpoiled
unfolding move_on
move-off w to n = rw (ne_eqb _ _ n)

time-off : (w : List ℕ) → (length w ≡ 67 → ⊥) → time_call w ≡ number ClockSpoiled
unfolding time_on
time-off w n = rw (ne_eqb _ _ n)

state-off : (w : List ℕ) (n : ℕ) → (length w ≡ 67 → ⊥) → state_call w n ≡ number ClockSpoiled
unfolding state_on
state-off w n h = rw (ne_eqb _ _ h)

-- whether there are 67
sized-or : {P : Type 0} (w : List ℕ) → (length w ≡ 67 → P) → ((length w ≡ 67 → ⊥) → P) → P
sized-or w f g = by (eqb (length w) 67) (λ t. f (eqb-true _ _ t)) (λ t. g (eqb-false _ _ t))

-- a refusal is not 0
not-35 : {P : Type 0} → ◌≡◌ {A = ℕ} 35 0 → P
not-35 e = absurd (omega arith)

not_255 : {P : Type 0} → ◌≡◌ {A = ℕ} 255 0 → P
not_255 e = absurd (omega arith)

pub fresh-laws : (w : List ℕ) → FreshLaws w
fresh-laws w =
    sized-or w
    (λ z.
    record {
      untouched = λ n. absurd (n (ap (λ (c : Called). refusal_of c.answer) (fresh-67 w z)));
      accepted = (λ e. z, λ y. ap (λ (c : Called). refusal_of c.answer) (fresh-67 w z));
    })
    (λ z.
    record {
      untouched = λ n. ap (λ (c : Called). c.words) (fresh-off w z);
      accepted = (λ e. not-35 (sym (ap (λ (c : Called). refusal_of c.answer) (fresh-off w z)) ∙ e), λ y. absurd (z y));
    })

-- what a refused call leaves, where what is accepted has 0 in the low 8 bits
kept-untouched : {A : Type 0} (code : Result A Refusal → ℕ) → ((a : A) → refusal_of (code (Ok a)) ≡ 0) → (w : List ℕ) (x : Result A Refusal) (b : Book)
    → Untouched w (coded code (left_in w (record { answer = x; book = b })))
kept-untouched code low w (Ok a) b n = absurd (n (low a))
kept-untouched code low w (Err r) b n = refl

heard-low : (x : Heard) → refusal_of (heard_code (Ok x)) ≡ 0
heard-low Heard.Applied = refl
heard-low Heard.Waiting = refl

moved-low : (n : ℕ) → refusal_of (moved_code (Ok n)) ≡ 0
moved-low n = omega arith

-- 1 where the offer is applied, 2 where it waits
offer-value : (b : Book) (a : Activation) → NoneOffered b a
    → heard_code (offer_in b a).answer / 2 ^ 8 ≡ (if leb a.time b.now then 1 else 2)
offer-value b a y =
    let s = sound-true b y.0 in
    let k = lt-leb 8 a.application (let h = y.1 in omega arith) in
    let p = young-true b.now a.time y.2 in
    let h = free-true b a y.3 in
    by (leb a.time b.now)
    (λ t. ap (λ (r : Answered Heard). heard_code r.answer / 2 ^ 8) (offer-applies b a s k p h y.4 (leb-true _ _ t)) ∙ rw t)
    (λ t. ap (λ (r : Answered Heard). heard_code r.answer / 2 ^ 8) (offer-waits b a s k p h y.4 (leb-false _ _ t)) ∙ rw t)

-- a time and a state leave 0 in the low 8 bits
time-low : (t : ℕ) → t * 2 ^ 32 % 2 ^ 8 ≡ 0
time-low t = omega arith

state-low : (s : State) → column_of s * 2 ^ 8 % 2 ^ 8 ≡ 0
state-low s = omega arith

module _ (w : List ℕ) (p e x t : ℕ) where
  abbrev a : Activation
  a = activation p e x t

  abbrev call : Called
  call = offer_call w p e x t

  offer-number : length w ≡ 67 → ltb 3 x ≡ false → call.answer ≡ heard_code (offer_in (book_in w) a).answer
  offer-number z h =
      ap (λ (c : Called). c.answer) (offer-on w p e x t z h)

  offer-untouched : Untouched w call
  offer-untouched =
      by (ltb 3 x) (λ h n. ap (λ (c : Called). c.words) (offer-no w p e x t h)) λ h.
      sized-or w
      (λ z. subst (Untouched w) (sym (offer-on w p e x t z h)) (kept-untouched heard_code heard-low w (offer_in (book_in w) a).answer (offer_in (book_in w) a).book))
      (λ z n. ap (λ (c : Called). c.words) (offer-off w p e x t h z))

  offer-only : refusal_of call.answer ≡ 0 → (length w ≡ record_size) × (x ≤ 3) × NoneOffered (book_in w) a
  offer-only q =
      by (ltb 3 x) (λ h. not_255 (sym (ap (λ (c : Called). refusal_of c.answer) (offer-no w p e x t h)) ∙ q)) λ h.
      sized-or w
      (λ z. (z, ltb-false _ _ h, (offer-when (book_in w) a).none.0 (sym (ap refusal_of (offer-number z h)) ∙ q)))
      (λ z. not-35 (sym (ap (λ (c : Called). refusal_of c.answer) (offer-off w p e x t h z)) ∙ q))

  pub offer-laws : OfferLaws w p e x t
  offer-laws =
      record {
        no_action = λ h. offer-no w p e x t (lt-ltb _ _ h);
        untouched = offer-untouched;
        accepted = (
          offer-only,
          λ y. ap refusal_of (offer-number y.0 (le-ltb _ _ y.1)) ∙ (offer-when (book_in w) a).none.1 y.2,
        );
        tells =
            λ q.
            let y = offer-only q in
            ap (λ (n : ℕ). n / 2 ^ 8) (offer-number y.0 (le-ltb _ _ y.1))
            ∙ offer-value (book_in w) a y.2;
      }

module _ (w : List ℕ) (to : ℕ) where
  move-number : length w ≡ 67 → (move_call w to).answer ≡ moved_code (move_in (book_in w) to).answer
  move-number z = ap (λ (c : Called). c.answer) (move-on w to z)

  move-only : refusal_of (move_call w to).answer ≡ 0 → (length w ≡ record_size) × (¬ Spoiled (book_in w)) × ((book_in w).now ≤ to)
  move-only q =
      sized-or w
      (λ z. let y = (move-when (book_in w) to).none.0 (sym (ap refusal_of (move-number z)) ∙ q) in (z, y.0, y.1))
      (λ z. not-35 (sym (ap (λ (c : Called). refusal_of c.answer) (move-off w to z)) ∙ q))

  pub move-laws : MoveLaws w to
  move-laws =
      record {
        untouched =
            sized-or w
            (λ z. subst (Untouched w) (sym (move-on w to z)) (kept-untouched moved_code moved-low w (move_in (book_in w) to).answer (move_in (book_in w) to).book))
            (λ z n. ap (λ (c : Called). c.words) (move-off w to z));
        accepted = (move-only, λ y. ap refusal_of (move-number y.0) ∙ (move-when (book_in w) to).none.1 (y.1, y.2));
        tells =
            λ q.
            let y = move-only q in
            let n : ℕ = length (due_of to (book_in w).held) in
            let e : (move_call w to).answer / 2 ^ 8 ≡ n =
            ap (λ (k : ℕ). k / 2 ^ 8)
            (move-number y.0 ∙ ap (λ (r : Answered ℕ). moved_code r.answer) (move-advances (book_in w) to (sound-true (book_in w) y.1) y.2))
            ∙ values.count n in
            let few = due-fewer to (book_in w).held in
            let most = (sized w).held in
            (e, omega arith);
      }

module _ (w : List ℕ) where
  time-only : refusal_of (time_call w) ≡ 0 → (length w ≡ record_size) × (¬ Spoiled (book_in w))
  time-only q =
      sized-or w
      (λ z. (z, λ s. not-35 (sym ((time-when (book_in w)).1 s) ∙ sym (ap refusal_of (time-on w z)) ∙ q)))
      (λ z. not-35 (sym (ap refusal_of (time-off w z)) ∙ q))

  time_told : ¬ Spoiled (book_in w) → time_in (book_in w) ≡ Ok (book_in w).now
  unfolding time_in
  time_told s = rw (sound-true (book_in w) s)

  pub time-laws : TimeLaws w
  time-laws =
      record {
        accepted = (
          time-only,
          λ y. ap refusal_of (time-on w y.0 ∙ ap time_code (time_told y.1)) ∙ time-low (book_in w).now,
        );
        tells =
            λ q.
            let y = time-only q in
            ap (λ (k : ℕ). k / 2 ^ 32) (time-on w y.0 ∙ ap time_code (time_told y.1)) ∙ values.time (book_in w).now;
      }

  module _ (n : ℕ) where
    state_told : ¬ Spoiled (book_in w) → n ≤ 7 → state_in (book_in w) n ≡ Ok (state_of (book_in w).apps n)
    unfolding state_in
    state_told s h = rw (sound-true (book_in w) s, lt-leb 8 n (omega arith))

    state-only : refusal_of (state_call w n) ≡ 0 → (length w ≡ record_size) × (¬ Spoiled (book_in w)) × (n ≤ 7)
    state-only q =
        sized-or w
        (λ z.
        let r : refusal_of (state_code (state_in (book_in w) n)) ≡ 0 = sym (ap refusal_of (state-on w n z)) ∙ q in
        let s : ¬ Spoiled (book_in w) = λ s. not-35 (sym ((state-when (book_in w) n).no35.1 s) ∙ r) in (
          z,
          s,
          by (leb 8 n)
              (λ k. absurd (let f : ◌≡◌ {A = ℕ} 30 0 = sym ((state-when (book_in w) n).no30.1 (s, leb-true _ _ k)) ∙ r in omega arith))
              (λ k. let f : n < 8 = leb-false _ _ k in omega arith),
        ))
        (λ z. not-35 (sym (ap refusal_of (state-off w n z)) ∙ q))

    pub state-laws : StateLaws w n
    state-laws =
        let s : State = state_of (book_in w).apps n in
        record {
          accepted = (
            state-only,
            λ y. ap refusal_of (state-on w n y.0 ∙ ap state_code (state_told y.1 y.2)) ∙ state-low s,
          );
          tells =
              λ q.
              let y = state-only q in
              let e : state_call w n / 2 ^ 8 ≡ column_of s =
              ap (λ (k : ℕ). k / 2 ^ 8) (state-on w n y.0 ∙ ap state_code (state_told y.1 y.2)) ∙ (values.state s).0 in
              (e, let f = (values.state s).1 in omega arith);
        }
