-- Each way out of a call: what leads to it, and what is then answered and left.
--   offer-35 .. offer-34, offer-applies, offer-waits     of an offer
--   move-35, move-31, move-advances                      of a move
--   heard-applied, heard-waiting                         what an offer leaves, from such a way out
--   moved                                                what a move leaves
use mathlib.Core.Path.{◌≡◌, sym}
use mathlib.Core.Bool.{true, false}
use mathlib.Core.List.{List, [], ◌∷◌, ◌++◌}
use Prim.Native.Nat.{ℕ, ◌<◌, ◌≤◌, min}
use native.Mathlib.Omega.{arith}
use lib.ListN.{length, length-take}
use borrow.Author.Tests.{lt-ltb, le-ltb, le-leb, lt-leb}
use Rattle.std.specs.Prelude.{Result, Ok, Err}
use Rattle.base.proofs.Cases.{by}
use Rattle.clock.specs.Ask.{sound_in}
use Rattle.refusal.specs.declared.Refusal.{Refusal}
use Rattle.refusal.specs.declared.Refusal.TheVariants.{ClockAbove, ClockMovedBack, ClockPast, ClockAlreadyHeld, ClockFull, ClockSpoiled}
use Rattle.clock_rule.specs.Rule.{above, applied}
use Rattle.clock_activation.specs.declared.Activation.{Activation}
use Rattle.clock_activation.specs.declared.Held.{Held}
use Rattle.clock_activation.specs.Activation.{past}
use Rattle.clock_activation.specs.Limits.{most_held}
use Rattle.clock_states.specs.States.{apps_in, states_word}
use Rattle.clock_record.specs.Held.{is_held}
use Rattle.clock_record.specs.Book.{Book, spoiled}
use Rattle.clock_record.specs.Words.{word_at, book_in, words_with}
use Rattle.clock_record.proofs.Back.{places}
use Rattle.clock_due.specs.Keys.{Runs}
use Rattle.clock_due.specs.declared.Ran.{Ran}
use Rattle.clock_keep.specs.Keep.{kept_of}
use Rattle.clock_keep.specs.Hold.{holding}
use Rattle.clock.specs.declared.Clock.{Clock}
use Rattle.clock.specs.Offer.{refused, applies, waits, offer_in}
use Rattle.clock.specs.Move.{advanced, move_in}
use Rattle.clock.specs.Move as Move
use Rattle.clock.specs.Record.{book_of, left_by}

err_ok : {A : Type 0} {r : Refusal} {x : A} → ◌≡◌ {A = Result A Refusal} (Err r) (Ok x) → ⊥
err_ok e = cc

same_err : {A : Type 0} {r s : Refusal} → ◌≡◌ {A = Result A Refusal} (Err r) (Err s) → r ≡ s
same_err e = cc

module _ (b : Book) where
  -- what the test of a record's soundness answers, and what is so
  pub unsound : {r : Refusal} → Err r ≡ sound_in b → (spoiled b ≡ true) × (r ≡ ClockSpoiled)
  unfolding sound_in
  unsound e = by (spoiled b) (λ t. (t, same_err (rw t at e))) (λ t. absurd (err_ok (rw t at e)))

  pub sound : Ok tt ≡ sound_in b → spoiled b ≡ false
  unfolding sound_in
  sound e = by (spoiled b) (λ t. absurd (err_ok (sym (rw t at e)))) (λ t. t)

module _ (b : Book) (a : Activation) where
  pub offer-35 : spoiled b ≡ true → offer_in b a ≡ refused b ClockSpoiled
  unfolding offer_in
  offer-35 s = rw s

  module _ (s : spoiled b ≡ false) where
    pub offer-30 : above a.application ≡ true → offer_in b a ≡ refused b ClockAbove
    unfolding offer_in
    offer-30 t = rw (s, t)

    module _ (k : above a.application ≡ false) where
      pub offer-32 : past b.now a.time ≡ true → offer_in b a ≡ refused b ClockPast
      unfolding offer_in
      offer-32 t = rw (s, k, t)

      module _ (p : past b.now a.time ≡ false) where
        pub offer-33 : is_held a b.held ≡ true → offer_in b a ≡ refused b ClockAlreadyHeld
        unfolding offer_in
        offer-33 t = rw (s, k, p, t)

        module _ (h : is_held a b.held ≡ false) where
          pub offer-34 : most_held ≤ length b.held → offer_in b a ≡ refused b ClockFull
          unfolding offer_in
          offer-34 t = rw (s, k, p, h, le-leb _ _ t)

          module _ (f : length b.held < most_held) where
            pub offer-applies : a.time ≤ b.now → offer_in b a ≡ applies b a
            unfolding offer_in
            offer-applies t = rw (s, k, p, h, lt-leb most_held _ f, le-leb _ _ t)

            pub offer-waits : b.now < a.time → offer_in b a ≡ waits b a
            unfolding offer_in
            offer-waits t = rw (s, k, p, h, lt-leb most_held _ f, lt-leb _ _ t)

module _ (b : Book) (to : ℕ) where
  pub move-35 : spoiled b ≡ true → move_in b to ≡ Move.refused b ClockSpoiled
  unfolding move_in
  move-35 s = rw s

  module _ (s : spoiled b ≡ false) where
    pub move-31 : to < b.now → move_in b to ≡ Move.refused b ClockMovedBack
    unfolding move_in
    move-31 t = rw (s, lt-ltb _ _ t)

    pub move-advances : b.now ≤ to → move_in b to ≡ advanced b to
    unfolding move_in
    move-advances t = rw (s, le-ltb _ _ t)

-- as many are held as the record has places for
pub few : (w : List ℕ) (n : ℕ) → n ≡ min (word_at w 2) 32 → length (book_in w).held ≡ n
few w n e = let l = places w in simp length-take (omega arith)

module _ (c : Clock) (a : Activation) where
  -- one more is held where there is room
  held_more : (states : ℕ) (h : Held) (n : ℕ) → n ≡ min (word_at c.words 2) 32 → n < 32
      → holding states h c.words ≡ words_with (word_at c.words 0) states ((book_of c).held ++ (h ∷ []))
  unfolding holding
  held_more states h n e t = rw (lt-leb 32 (word_at c.words 2) (omega arith))

  module _ (n : ℕ) (e : n ≡ min (word_at c.words 2) 32) (room : n < 32) (states : ℕ) (next : List ℕ) where
    pub heard-applied : offer_in (book_of c) a ≡ applies (book_of c) a
        → states ≡ states_word (applied (apps_in (word_at c.words 1)) a.application a.action)
        → next ≡ holding states (record { activation = a; applied = true }) c.words
        → record { words = next } ≡ left_by c (offer_in (book_of c) a)
    heard-applied o s h = rw (o, h, held_more states (record { activation = a; applied = true }) n e room, s)

    pub heard-waiting : offer_in (book_of c) a ≡ waits (book_of c) a
        → states ≡ states_word (apps_in (word_at c.words 1))
        → next ≡ holding states (record { activation = a; applied = false }) c.words
        → record { words = next } ≡ left_by c (offer_in (book_of c) a)
    heard-waiting o s h = rw (o, h, held_more states (record { activation = a; applied = false }) n e room, s)

module _ (c : Clock) (to : ℕ) where
  pub moved : (d : Ran) (next : List ℕ) → move_in (book_of c) to ≡ advanced (book_of c) to → Runs to (book_of c) d
      → next ≡ words_with to d.states (kept_of to (book_of c).held)
      → record { words = next } ≡ left_by c (move_in (book_of c) to)
  moved d next o r k = rw (o, k, r.states)
