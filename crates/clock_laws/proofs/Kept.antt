-- The clock's promise over histories.
--   kept             after any history from fresh, `Kept` holds
--   never_35         no call of a history is answered 35
--   accepted_33      an accepted activation, applied or waiting, offered again within its memory is refused 33 and changes nothing
--   again-33         so it is, then, with an applied one
--   counted          a move answers how many it added to the account's applied ones
--   same-steps       equal records stay equal, and their accounts with them
use Rattle.std.specs.Prelude.{Ok}
use mathlib.Core.Path.{◌≡◌, refl, sym, ap, ◌∙◌}
use mathlib.Core.Bool.{Bool, true, false, not, ◌||◌}
use mathlib.Core.Logic.{◌⊎◌, ⊎_elim, inl, inr}
use mathlib.Core.List.{List, [], ◌∷◌, ◌++◌, map, append_assoc, append-nil}
use Prim.Native.Nat.{ℕ, ◌+◌, ◌<◌, ◌≤◌}
use native.Mathlib.Omega.{arith}
use lib.ListN.{length, length-append}
use borrow.Author.Tests.{lt-leb, leb-false, not-true, not-false}
use Rattle.base.proofs.Cases.{by, unlike, or_left, or_right}
use Rattle.clock_rule.specs.declared.App.{App}
use Rattle.clock_rule.specs.Rule.{above, applied}
use Rattle.clock_activation.specs.declared.Activation.{Activation}
use Rattle.clock_activation.specs.declared.Held.{Held}
use Rattle.clock_activation.specs.Activation.{alike, past}
use Rattle.clock_record.specs.Lists.{All, Rearranged, any_of, only_of}
use Rattle.clock_record.specs.Held.{is_one, is_held, two_alike, wrong, spoiled_by}
use Rattle.clock_record.specs.Waiting.{waiting_of, reached}
use Rattle.clock_laws.proofs.Wrong.{wrong-waiting, wrong-past}
use Rattle.clock_due.specs.Order.{sort_of, run_of}
use Rattle.clock_due.proofs.Keys.{length-sort}
use Rattle.clock_keep.specs.Keep.{kept_of}
use Rattle.clock_keep.proofs.Laws.{only-append}
use Rattle.clock.specs.declared.Heard.{Heard}
use Rattle.clock_record.specs.Book.{Book, fresh, spoiled, Same}
use Rattle.clock.specs.Offer.{offer_in, applies, waits}
use Rattle.clock.specs.Move.{move_in, advanced}
use Rattle.clock.proofs.Exits.{offer-33}
use Rattle.clock_laws.specs.Distinct.{Distinct}
use Rattle.clock_record.proofs.Lists.{all_map, all_append, map-append}
use Rattle.clock_laws.proofs.Lists.{any_append, any_left, any-right, all-only, only-only, all_left, all-rearranged, rearranged-sym, to_front, front-append, back-append, split}
use Rattle.clock_laws.proofs.Alike.{alike_refl, alike-one, one_alike, young-true, past-later}
use Rattle.clock_laws.proofs.Order.{sort-rearranged}
use Rattle.clock_laws.proofs.Exactly.{offer-when, move-when}
use Rattle.clock_laws.proofs.Words.{spoiled-true}
use Rattle.clock_laws.proofs.Equal.{same-offer, same_move}
use Rattle.clock_laws.specs.History.{Call, Account, heard, passed, Moment, step, steps, after, refusal_next, nothing_yet}
use Rattle.clock_laws.specs.Promise.{Kept, Again}
use Rattle.clock_laws.proofs.Cases.{Accepts, offer-cases, move-cases}
use Rattle.clock_laws.proofs.Held.{run-append, waiting-append, waiting_kept, two-more, two-kept, any-kept, held-alike, held_kept, activations-kept}

sound-of : (now : ℕ) (hs : List Held) → any_of (wrong now) hs ≡ false → two_alike hs ≡ false → spoiled_by false now hs ≡ false
unfolding spoiled_by
sound-of now hs a t = rw (a, t)

none-wrong : (b : Book) → spoiled b ≡ false → any_of (wrong b.now) b.held ≡ false
unfolding spoiled_by
none-wrong b s = or_left (any_of (wrong b.now) b.held) (two_alike b.held) (or_right b.over (any_of (wrong b.now) b.held || two_alike b.held) s)

none_alike : (b : Book) → spoiled b ≡ false → two_alike b.held ≡ false
unfolding spoiled_by
none_alike b s = or_right (any_of (wrong b.now) b.held) (two_alike b.held) (or_right b.over (any_of (wrong b.now) b.held || two_alike b.held) s)

distinct_more : (l : List Activation) (a : Activation) → Distinct l → All (λ x. alike x a ≡ false) l → Distinct (l ++ (a ∷ []))
distinct_more [] a d n = (tt, tt)
distinct_more (x ∷ l) a d n =
    (all_append (λ b. alike x b ≡ false) l (a ∷ []) d.0 (n.0, tt), distinct_more l a d.1 n.1)

-- one more accepted
module _ (t : Moment) (k : Kept t) (a : Activation) (y : Accepts t.book a) where
  -- it is alike to none that was accepted before
  new : (x : Activation) → (is_held x t.book.held ≡ true) ⊎ (past t.book.now x.time ≡ true) → alike x a ≡ false
  new x w =
      by (alike x a)
      (λ e.
      absurd
      (⊎_elim
      (λ h. unlike (sym (sym (held-alike x a e t.book.held) ∙ h) ∙ y.free))
      (λ p. unlike (sym (rw (alike-one x a e).time at p) ∙ y.young))
      w))
      (λ e. e)

  distinct-now : Distinct (t.account.accepted ++ (a ∷ []))
  distinct-now =
      distinct_more t.account.accepted a k.distinct
      (all_map (λ x. (is_held x t.book.held ≡ true) ⊎ (past t.book.now x.time ≡ true)) (λ x. alike x a ≡ false) new
      t.account.accepted k.held)

  known-now : All (λ x. above x.application ≡ false) (t.account.accepted ++ (a ∷ []))
  known-now = all_append (λ x. above x.application ≡ false) t.account.accepted (a ∷ []) k.known (y.known, tt)

  -- it stands in front of the others in any order
  front : Rearranged (t.account.accepted ++ (a ∷ [])) (a ∷ (t.account.applied ++ t.account.waiting))
  front =
      let all : Rearranged (a ∷ (t.account.accepted ++ [])) (a ∷ (t.account.applied ++ t.account.waiting)) =
      rw append-nil (Rearranged.keep k.once) in
      Rearranged.next (to_front t.account.accepted a []) all

  module _ (done : Bool) where
    abbrev more : List Held
    more = t.book.held ++ (record { activation = a; applied = done } ∷ [])

    held-now : All (λ x. (is_held x more ≡ true) ⊎ (past t.book.now x.time ≡ true)) (t.account.accepted ++ (a ∷ []))
    unfolding any_of
    held-now =
        all_append (λ x. (is_held x more ≡ true) ⊎ (past t.book.now x.time ≡ true)) t.account.accepted (a ∷ [])
        (all_map (λ x. (is_held x t.book.held ≡ true) ⊎ (past t.book.now x.time ≡ true))
        (λ x. (is_held x more ≡ true) ⊎ (past t.book.now x.time ≡ true))
        (λ x w. ⊎_elim (λ h. inl (any_left (is_one x) t.book.held (record { activation = a; applied = done } ∷ []) h)) (λ p. inr p) w)
        t.account.accepted k.held)
        (inl (any-right (is_one a) t.book.held (record { activation = a; applied = done } ∷ []) (rw (alike_refl a))), tt)

    exact-now : map (λ (h : Held). h.activation) more ≡ only_of (λ x. not (past t.account.now x.time)) (t.account.accepted ++ (a ∷ []))
    unfolding only_of
    exact-now =
        let young : past t.account.now a.time ≡ false = rw k.clock at y.young in
        map-append (λ (h : Held). h.activation) t.book.held (record { activation = a; applied = done } ∷ [])
        ∙ ap (λ (l : List Activation). l ++ (a ∷ [])) k.exact
        ∙ sym (only-append (λ x. not (past t.account.now x.time)) t.account.accepted (a ∷ []) ∙ rw young)

    sound-now : wrong t.book.now (record { activation = a; applied = done }) ≡ false → spoiled_by false t.book.now more ≡ false
    unfolding any_of
    sound-now w =
        sound-of t.book.now more
        (any_append (wrong t.book.now) t.book.held (record { activation = a; applied = done } ∷ []) (none-wrong t.book k.sound) (rw w))
        (two-more t.book.held (record { activation = a; applied = done }) (none_alike t.book k.sound) y.free)

  applied-now : a.time ≤ t.book.now → Kept (record { book = (applies t.book a).book; account = heard t.account a (Ok Heard.Applied) })
  unfolding run_of waiting_of
  applied-now h =
      record {
        sound = sound-now true (wrong-past t.book.now (record { activation = a; applied = true }) y.known refl h ∙ y.young);
        clock = k.clock;
        distinct = distinct-now;
        once =
            (let back : Rearranged (a ∷ (t.account.applied ++ t.account.waiting)) ((t.account.applied ++ (a ∷ [])) ++ t.account.waiting) =
            rw (append_assoc t.account.applied (a ∷ []) t.account.waiting)
            (rearranged-sym (to_front t.account.applied a t.account.waiting)) in
            Rearranged.next front back);
        ahead = k.ahead;
        waits = waiting-append t.book.held (record { activation = a; applied = true } ∷ []) ∙ append-nil _ ∙ k.waits;
        states =
            ap (λ (l : List App). applied l a.application a.action) k.states ∙ sym (run-append fresh.apps t.account.applied (a ∷ []));
        known = known-now;
        held = held-now true;
        exact = exact-now true;
      }

  waiting-now : t.book.now < a.time → Kept (record { book = (waits t.book a).book; account = heard t.account a (Ok Heard.Waiting) })
  unfolding waiting_of
  waiting-now h =
      record {
        sound = sound-now false (wrong-waiting t.book.now (record { activation = a; applied = false }) y.known refl ∙ lt-leb _ _ h);
        clock = k.clock;
        distinct = distinct-now;
        once =
            (let last : Rearranged ((t.account.applied ++ t.account.waiting) ++ (a ∷ [])) (a ∷ (t.account.applied ++ t.account.waiting)) =
            rw append-nil at (to_front (t.account.applied ++ t.account.waiting) a []) in
            let back : Rearranged (a ∷ (t.account.applied ++ t.account.waiting)) (t.account.applied ++ (t.account.waiting ++ (a ∷ []))) =
            rearranged-sym (rw (append_assoc t.account.applied t.account.waiting (a ∷ [])) at last) in
            Rearranged.next front back);
        ahead = all_append (λ x. t.book.now < x.time) t.account.waiting (a ∷ []) k.ahead (h, tt);
        waits =
            waiting-append t.book.held (record { activation = a; applied = false } ∷ [])
            ∙ ap (λ (l : List Activation). l ++ (a ∷ [])) k.waits;
        states = k.states;
        known = known-now;
        held = held-now false;
        exact = exact-now false;
      }

-- the clock is moved on
moved_on : (t : Moment) → Kept t → (to : ℕ) → t.book.now ≤ to
    → Kept (record { book = (advanced t.book to).book; account = passed t.account to (advanced t.book to).answer })
moved_on t k to h =
    record {
      sound =
          sound-of to (kept_of to t.book.held)
          (any-kept t.book.now to h t.book.held (none-wrong t.book k.sound))
          (two-kept to t.book.held (none_alike t.book k.sound));
      clock = refl;
      distinct = k.distinct;
      once =
          (let parted : Rearranged t.account.waiting (sort_of (only_of (reached to) t.account.waiting) ++ only_of (λ a. not (reached to a)) t.account.waiting) =
          Rearranged.next (split (reached to) t.account.waiting)
          (back-append (only_of (λ a. not (reached to a)) t.account.waiting)
          (rearranged-sym (sort-rearranged (only_of (reached to) t.account.waiting)))) in
          let on :
          Rearranged (t.account.applied ++ t.account.waiting)
          ((t.account.applied ++ sort_of (only_of (reached to) t.account.waiting)) ++ only_of (λ a. not (reached to a)) t.account.waiting) =
          rw (append_assoc t.account.applied (sort_of (only_of (reached to) t.account.waiting))
          (only_of (λ a. not (reached to a)) t.account.waiting))
          (front-append t.account.applied parted) in
          Rearranged.next k.once on);
      ahead =
          all_map (λ a. not (reached to a) ≡ true) (λ a. to < a.time) (λ a e. leb-false _ _ (not-true (reached to a) e))
          (only_of (λ a. not (reached to a)) t.account.waiting)
          (all-only (λ a. not (reached to a)) t.account.waiting);
      waits = waiting_kept to t.book.held ∙ ap (only_of (λ a. not (reached to a))) k.waits;
      states =
          rw (k.waits, k.states)
          (sym (run-append fresh.apps t.account.applied (sort_of (only_of (reached to) t.account.waiting))));
      known = k.known;
      held =
          all_map (λ a. (is_held a t.book.held ≡ true) ⊎ (past t.book.now a.time ≡ true))
          (λ a. (is_held a (kept_of to t.book.held) ≡ true) ⊎ (past to a.time ≡ true))
          (λ a w. ⊎_elim (λ i. held_kept to a t.book.held i) (λ p. inr (past-later t.book.now to a.time h p)) w)
          t.account.accepted k.held;
      exact =
          activations-kept to t.book.held
          ∙ ap (only_of (λ a. not (past to a.time))) k.exact
          ∙ only-only (λ (a : Activation). not (past to a.time)) (λ a. not (past t.account.now a.time))
          (λ (a : Activation) e. rw (past-later t.account.now to a.time (rw k.clock at h) (not-false (past t.account.now a.time) e)))
          t.account.accepted;
    }

pub step_kept : (t : Moment) (x : Call) → Kept t → Kept (step t x)
step_kept t (Call.offer a) k =
    offer-cases t.book a (λ r. Kept (record { book = r.book; account = heard t.account a r.answer }))
    (λ n. k)
    (λ y h. applied-now t k a y h)
    (λ y h. waiting-now t k a y h)
step_kept t (Call.move to) k =
    move-cases t.book to (λ r. Kept (record { book = r.book; account = passed t.account to r.answer }))
    (λ n. k)
    (λ s h. moved_on t k to h)

pub steps-kept : (t : Moment) (h : List Call) → Kept t → Kept (steps t h)
steps-kept t [] k = k
steps-kept t (x ∷ h) k = steps-kept (step t x) h (step_kept t x k)

begun : Kept (record { book = fresh; account = nothing_yet })
unfolding spoiled_by any_of two_alike waiting_of run_of only_of
begun =
    record {
      sound = refl;
      clock = refl;
      distinct = tt;
      once = Rearranged.none;
      ahead = tt;
      waits = refl;
      states = refl;
      known = tt;
      held = tt;
      exact = refl;
    }

-- over any history from fresh
pub kept : (h : List Call) → Kept (after h)
kept h = steps-kept (record { book = fresh; account = nothing_yet }) h begun

-- no call of a history is answered 35: whatever came before it, and whatever it is
pub never_35 : (h : List Call) (x : Call) → refusal_next (after h).book x ≡ 35 → ⊥
never_35 h (Call.offer a) e = unlike (sym (spoiled-true (after h).book ((offer-when (after h).book a).no35.0 e)) ∙ (kept h).sound)
never_35 h (Call.move to) e = unlike (sym (spoiled-true (after h).book ((move-when (after h).book to).no35.0 e)) ∙ (kept h).sound)

-- what was accepted and is offered again within its memory
again : (t : Moment) → Kept t → (x : Activation) → above x.application ≡ false
    → (is_held x t.book.held ≡ true) ⊎ (past t.book.now x.time ≡ true) → Again t.book x
again t k x low w a o y =
    let fresh-yet : past t.book.now a.time ≡ false = young-true t.book.now a.time y in
    let here : is_held x t.book.held ≡ true =
    ⊎_elim (λ h. h) (λ p. absurd (unlike (sym (rw (← o.time) at p) ∙ fresh-yet))) w in
    offer-33 t.book a k.sound (rw o.application low) fresh-yet (held-alike a x (one_alike a x o) t.book.held ∙ here)

again-each : (t : Moment) → Kept t → (l : List Activation) → All (λ a. above a.application ≡ false) l
    → All (λ a. (is_held a t.book.held ≡ true) ⊎ (past t.book.now a.time ≡ true)) l → All (Again t.book) l
again-each t k [] low w = tt
again-each t k (x ∷ l) low w = (again t k x low.0 w.0, again-each t k l low.1 w.1)

pub accepted_33 : (h : List Call) → All (Again (after h).book) (after h).account.accepted
accepted_33 h = again-each (after h) (kept h) (after h).account.accepted (kept h).known (kept h).held

pub again-33 : (h : List Call) → All (Again (after h).book) (after h).account.applied
again-33 h =
    all_left (Again (after h).book) (after h).account.applied (after h).account.waiting
    (all-rearranged (Again (after h).book) (kept h).once (accepted_33 h))

-- the number that a move answers is how many it adds to the account's applied ones
pub counted : (h : List Call) (to n : ℕ) → (move_in (after h).book to).answer ≡ Ok n
    → length (step (after h) (Call.move to)).account.applied ≡ length (after h).account.applied + n
counted h to n =
    let t : Moment = after h in
    move-cases t.book to
    (λ r. r.answer ≡ Ok n → length (passed t.account to r.answer).applied ≡ length t.account.applied + n)
    (λ m e. absurd (let z : ◌≡◌ {A = ℕ} 0 1 = cc in omega arith))
    (λ s g e.
    let c : length (only_of (reached to) (waiting_of t.book.held)) ≡ n = cc in
    rw (length-append, length-sort, ← (kept h).waits, c))

-- equal records stay equal, and their accounts with them
pub same-steps : (t u : Moment) (h : List Call) → Same t.book u.book → t.account ≡ u.account
    → Same (steps t h).book (steps u h).book × ((steps t h).account ≡ (steps u h).account)
same-steps t u [] s e = (s, e)
same-steps t u (Call.offer a ∷ h) s e =
    let q = same-offer t.book u.book s a in
    same-steps (step t (Call.offer a)) (step u (Call.offer a)) h q.book
    (ap (λ (k : Account). heard k a (offer_in t.book a).answer) e ∙ ap (heard u.account a) q.answer)
same-steps t u (Call.move to ∷ h) s e =
    let q = same_move t.book u.book s to in
    same-steps (step t (Call.move to)) (step u (Call.move to)) h q.book
    (ap (λ (k : Account). passed k to (move_in t.book to).answer) e ∙ ap (passed u.account to) q.answer)
