-- What is demanded of the clock, of the exported functions' own promises.
--   demands   `ClockDemands`: the history, kept, never_35, accepted_33, time_told, move_told, state_told and offer-told
use Rattle.std.specs.Prelude.{if◌then◌else◌, Ok}
use mathlib.Core.Path.{◌≡◌, sym, ap, subst, ◌∙◌}
use mathlib.Core.Bool.{false}
use mathlib.Core.List.{List}
use Prim.Native.Nat.{ℕ, ◌+◌, ◌<◌, ◌≤◌}
use native.Mathlib.Omega.{arith}
use lib.Dec.{ltb, leb}
use lib.ListN.{length, length-map}
use borrow.Author.Tests.{eq-eqb, le-ltb, ltb-true, ltb-false}
use Rattle.refusal.specs.Refusal.{number}
use Rattle.refusal.specs.declared.Refusal.TheVariants.{ClockAbove, ClockAlreadyHeld, NoSuchAction}
use Rattle.base.proofs.Cases.{by, unlike}
use Rattle.clock_rule.specs.declared.App.{App}
use Rattle.clock_rule.specs.Rule.{above, state_of}
use Rattle.clock_activation.specs.declared.Activation.{Activation}
use Rattle.clock_activation.specs.declared.Held.{Held}
use Rattle.clock_activation.specs.Activation.{alike, past}
use Rattle.clock_record.specs.Lists.{All, any_of}
use Rattle.clock_record.specs.Held.{is_held}
use Rattle.clock_record.specs.Waiting.{reached}
use Rattle.clock_record.specs.Book.{Book, spoiled}
use Rattle.clock_record.specs.Words.{book_in}
use Rattle.clock_record.proofs.Lists.{all_map}
use Rattle.clock.specs.declared.Heard.{Heard}
use Rattle.clock.specs.Offer.{offer_in, refused}
use Rattle.clock.specs.Answered.{Answered}
use Rattle.clock.specs.Ask.{time_in, state_in}
use Rattle.clock.specs.Codes.{refusal_of, heard_code, moved_code, time_code, state_code}
use Rattle.clock.proofs.Exits.{move-31, move-advances}
use Rattle.clock_laws.specs.History.{Account, still_held, after}
use Rattle.clock_laws.specs.Promise.{Kept, Again}
use Rattle.clock_laws.proofs.Words.{spoiled-true}
use Rattle.clock_laws.proofs.Exactly.{offer-when, move-when, time-when, state-when}
use Rattle.clock_laws.proofs.Held.{held_any}
use Rattle.clock_laws.proofs.Kept.{kept, accepted_33}
use Rattle.clock_answers.specs.Calls.{activation, coded, left_in, offer_on}
use Rattle.clock_demands.specs.Host.{HostCall, layer_calls, code_in, host_after}
use Rattle.clock_demands.specs.Demands.{HostHistory, HostKept, Never35, HostAgain, Accepted33, TimeTold, MoveTold, StateTold, offer_told, OfferTold, ClockDemands}
use Rattle.clock_demands.proofs.Boundary.{answered-code}
use Rattle.clock_demands.proofs.History.{host-history}

module _ (w : List ℕ) (h : List HostCall) (r : HostHistory w h) where
  -- the layer's moment is the host's
  same-book : (after (layer_calls h)).book ≡ book_in (host_after w h).words
  same-book = sym r.book ∙ ap book_in (sym r.words)

  same-account : (after (layer_calls h)).account ≡ (host_after w h).account
  same-account = sym r.account

  host-kept : HostKept w h
  host-kept =
      subst (λ (b : Book). Kept (record { book = b; account = (host_after w h).account })) same-book
      (subst (λ (k : Account). Kept (record { book = (after (layer_calls h)).book; account = k })) same-account (kept (layer_calls h)))

  long : length (host_after w h).words ≡ 67
  long = ap length r.words ∙ r.long

  sound : spoiled (book_in (host_after w h).words) ≡ false
  sound = host-kept.sound

  sound-time : time_in (book_in (host_after w h).words) ≡ Ok (book_in (host_after w h).words).now
  unfolding time_in
  sound-time = rw sound

  host-time : TimeTold w h
  host-time =
      answered-code (host_after w h).words long HostCall.ask_time
      ∙ ap time_code sound-time
      ∙ ap (λ (t : ℕ). time_code (Ok t)) host-kept.clock

  host-move : MoveTold w h
  host-move to =
      answered-code (host_after w h).words long (HostCall.move to)
      ∙ by (ltb to (host_after w h).account.now)
      (λ t.
      let i : to < (book_in (host_after w h).words).now = rw host-kept.clock (ltb-true _ _ t) in
      ap (λ (x : Answered ℕ). moved_code x.answer) (move-31 (book_in (host_after w h).words) to sound i) ∙ rw t)
      (λ t.
      let i : (book_in (host_after w h).words).now ≤ to = rw host-kept.clock (ltb-false _ _ t) in
      ap (λ (x : Answered ℕ). moved_code x.answer) (move-advances (book_in (host_after w h).words) to sound i)
      ∙ rw (t, host-kept.waits))

  -- a state that is told, from the states that the record says
  sound-state : (n : ℕ) → state_code (state_in (book_in (host_after w h).words) n)
      ≡ (if above n then number ClockAbove else state_code (Ok (state_of (book_in (host_after w h).words).apps n)))
  unfolding state_in
  sound-state n = by (above n) (λ t. rw (sound, t)) (λ t. rw (sound, t))

  host-state : StateTold w h
  host-state n =
      answered-code (host_after w h).words long (HostCall.ask_state n)
      ∙ sound-state n
      ∙ ap (λ (l : List App). if above n then number ClockAbove else state_code (Ok (state_of l n))) host-kept.states

  module _ (a : Activation) where
    -- the tests of an offer, by the account
    same-past : past (book_in (host_after w h).words).now a.time ≡ past (host_after w h).account.now a.time
    same-past = ap (λ (t : ℕ). past t a.time) host-kept.clock

    same-held : is_held a (book_in (host_after w h).words).held ≡ any_of (alike a) (still_held (host_after w h).account)
    same-held = held_any a (book_in (host_after w h).words).held ∙ ap (any_of (alike a)) host-kept.exact

    same-many : length (book_in (host_after w h).words).held ≡ length (still_held (host_after w h).account)
    same-many =
        sym (length-map (book_in (host_after w h).words).held (λ (x : Held). x.activation)) ∙ ap length host-kept.exact

    same-reached : leb a.time (book_in (host_after w h).words).now ≡ reached (host_after w h).account.now a
    same-reached = ap (leb a.time) host-kept.clock

    sound-offer : heard_code (offer_in (book_in (host_after w h).words) a).answer ≡ offer_told (host_after w h).account a
    unfolding offer_in
    sound-offer =
        rw (sound, same-past, same-held, same-many, same-reached)
        (by (above a.application) (λ k. rw k) λ k.
        by (past (host_after w h).account.now a.time) (λ p. rw (k, p)) λ p.
        by (any_of (alike a) (still_held (host_after w h).account)) (λ y. rw (k, p, y)) λ y.
        by (leb 32 (length (still_held (host_after w h).account))) (λ f. rw (k, p, y, f)) λ f.
        by (reached (host_after w h).account.now a) (λ t. rw (k, p, y, f, t)) (λ t. rw (k, p, y, f, t)))

  host-offer : OfferTold w h
  host-offer application event action time =
      answered-code (host_after w h).words long (HostCall.offer application event action time)
      ∙ ap (λ (n : ℕ). if ltb 3 action then number NoSuchAction else n) (sound-offer (activation application event action time))

  code-35 : (x : HostCall) → refusal_of (code_in (book_in (host_after w h).words) x) ≡ 35 → ⊥
  code-35 (HostCall.offer p e x t) q =
      by (ltb 3 x)
      (λ u. absurd (let n : ◌≡◌ {A = ℕ} 255 35 = rw u at q in omega arith))
      (λ u. unlike (sym (spoiled-true _ ((offer-when (book_in (host_after w h).words) (activation p e x t)).no35.0 (rw u at q))) ∙ sound))
  code-35 (HostCall.move to) q = unlike (sym (spoiled-true _ ((move-when (book_in (host_after w h).words) to).no35.0 q)) ∙ sound)
  code-35 HostCall.ask_time q = unlike (sym (spoiled-true _ ((time-when (book_in (host_after w h).words)).0 q)) ∙ sound)
  code-35 (HostCall.ask_state n) q = unlike (sym (spoiled-true _ ((state-when (book_in (host_after w h).words) n).no35.0 q)) ∙ sound)

  host-35 : Never35 w h
  host-35 x q = code-35 x (ap refusal_of (sym (answered-code (host_after w h).words long x)) ∙ q)

  again : (a : Activation) → Again (after (layer_calls h)).book a → HostAgain (host_after w h).words a
  unfolding offer_on
  again a g application event action time small one young =
      let v : List ℕ = (host_after w h).words in
      let o : offer_in (book_in v) (activation application event action time) ≡ refused (book_in v) ClockAlreadyHeld =
      subst (λ (b : Book). offer_in b (activation application event action time) ≡ refused b ClockAlreadyHeld) same-book
      (g (activation application event action time) one (subst (λ (b : Book). b.now ≤ time + 60000) (sym same-book) young)) in
      rw (le-ltb _ _ small, eq-eqb _ _ long) (ap (λ (r : Answered Heard). coded heard_code (left_in v r)) o)

  host-33 : Accepted33 w h
  host-33 =
      subst (λ (k : Account). All (HostAgain (host_after w h).words) k.accepted) same-account
      (all_map (Again (after (layer_calls h)).book) (HostAgain (host_after w h).words) again (after (layer_calls h)).account.accepted (accepted_33 (layer_calls h)))

pub demands : ClockDemands
demands w z h f =
    let r = host-history w z h f in
    record { history = r; kept = host-kept w h r; never_35 = host-35 w h r; accepted_33 = host-33 w h r; time_told = host-time w h r; move_told = host-move w h r; state_told = host-state w h r; offer-told = host-offer w h r }
