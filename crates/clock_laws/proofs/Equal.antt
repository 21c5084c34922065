-- Equality of clock records: clock, states and the set held.
--   same_refl, same-sym, same-trans                      it is an equality
--   same-offer, same_move, same-time, same-state         equal records are answered alike, and what follows is equal
--   one-offer, one-move, one-fresh, one_time, one_state  two answers that satisfy one promise are equal
use Rattle.std.specs.Prelude.{if◌then◌else◌, Result, Ok}
use mathlib.Core.Path.{◌≡◌, refl, sym, ap, subst, ◌∙◌}
use mathlib.Core.Bool.{Bool, true, false, not, ◌||◌}
use mathlib.Core.List.{List, [], ◌∷◌}
use Prim.Native.Nat.{ℕ}
use lib.Dec.{ltb, leb}
use borrow.Author.Tests.{ltb-true, ltb-false}
use Rattle.base.specs.Choice.{first, Row}
use Rattle.base.proofs.Cases.{by, or_left, or_right}
use Rattle.refusal.specs.declared.Refusal.{Refusal}
use Rattle.clock_rule.specs.declared.State.{State}
use Rattle.clock_rule.specs.declared.App.{App}
use Rattle.clock_rule.specs.Rule.{applied}
use Rattle.clock_activation.specs.declared.Activation.{Activation}
use Rattle.clock_activation.specs.declared.Held.{Held}
use Rattle.clock_activation.specs.Activation.{alike, past}
use Rattle.clock_activation.specs.Limits.{most_held}
use Rattle.clock_record.specs.Lists.{All, Rearranged, any_of}
use Rattle.clock_record.specs.Held.{is_one, is_held, two_alike, wrong, spoiled_by}
use Rattle.clock_record.specs.Waiting.{waiting_of, reached, due_of}
use Rattle.clock_due.specs.Order.{run_of}
use Rattle.clock_keep.specs.Keep.{moved, forgotten, kept_of}
use Rattle.clock.specs.declared.Clock.{Clock}
use Rattle.clock.specs.declared.Heard.{Heard}
use Rattle.clock_record.specs.Book.{Book, Same, fresh, spoiled}
use Rattle.clock.specs.Record.{book_of, clock_of, offer_to, move_to}
use Rattle.clock.specs.declared.Handed.{Handed}
use Rattle.clock.specs.Offer.{faults, refused, applies, waits, offer_in}
use Rattle.clock.specs.Move.{move_in}
use Rattle.clock.specs.Ask.{time_in, state_in}
use Rattle.clock.proofs.Exits.{move-35, move-31, move-advances}
use Rattle.clock_laws.specs.Distinct.{Distinct}
use Rattle.clock_laws.specs.Alike.{AnsweredAlike}
use Rattle.clock_laws.proofs.Lists.{any-rearranged, only-rearranged, map-rearranged, length-rearranged, rearranged-refl, rearranged-sym, back-append}
use Rattle.clock_laws.proofs.Alike.{alike-comm}
use Rattle.clock_laws.proofs.Order.{distinct-only, rearranged-sort}

pub same_refl : (b : Book) → Same b b
same_refl b = record { over = refl; now = refl; apps = refl; held = rearranged-refl b.held }

pub same-sym : (b c : Book) → Same b c → Same c b
same-sym b c s = record { over = sym s.over; now = sym s.now; apps = sym s.apps; held = rearranged-sym s.held }

pub same-trans : (b c d : Book) → Same b c → Same c d → Same b d
same-trans b c d s t =
    record { over = s.over ∙ t.over; now = s.now ∙ t.now; apps = s.apps ∙ t.apps; held = Rearranged.next s.held t.held }

-- what the order of the held does not change
around : (a p q t : Bool) → (a || p) || (q || t) ≡ (a || q) || (p || t)
around true p q t = refl
around false true true t = refl
around false true false t = refl
around false false true t = refl
around false false false t = refl

pub two-rearranged : {l r : List Held} → Rearranged l r → two_alike l ≡ two_alike r
unfolding two_alike any_of
two-rearranged Rearranged.none = refl
two-rearranged (Rearranged.keep {x = x} {r = r} s) =
    rw (any-rearranged (is_one x.activation) s) (ap (λ (t : Bool). is_held x.activation r || t) (two-rearranged s))
two-rearranged (Rearranged.swap {x = x} {y = y} {l = l}) =
    rw (alike-comm y.activation x.activation)
    (around (alike x.activation y.activation) (is_held x.activation l) (is_held y.activation l) (two_alike l))
two-rearranged (Rearranged.next s t) = two-rearranged s ∙ two-rearranged t

pub waiting-rearranged : {l r : List Held} → Rearranged l r → Rearranged (waiting_of l) (waiting_of r)
unfolding waiting_of
waiting-rearranged Rearranged.none = Rearranged.none
waiting-rearranged (Rearranged.keep {x = x} s) =
    let ih = waiting-rearranged s in by x.applied (λ t. rw t ih) (λ t. rw t (Rearranged.keep ih))
waiting-rearranged (Rearranged.swap {x = x} {y = y} {l = l}) =
    by x.applied
    (λ t. by y.applied (λ u. rw (t, u) (rearranged-refl (waiting_of l))) (λ u. rw (t, u) (rearranged-refl (y.activation ∷ waiting_of l))))
    (λ t. by y.applied (λ u. rw (t, u) (rearranged-refl (x.activation ∷ waiting_of l))) (λ u. rw (t, u) Rearranged.swap))
waiting-rearranged (Rearranged.next s t) = Rearranged.next (waiting-rearranged s) (waiting-rearranged t)

due-rearranged : (to : ℕ) {l r : List Held} → Rearranged l r → Rearranged (due_of to l) (due_of to r)
due-rearranged to s = only-rearranged (reached to) (waiting-rearranged s)

kept-rearranged : (to : ℕ) {l r : List Held} → Rearranged l r → Rearranged (kept_of to l) (kept_of to r)
unfolding kept_of
kept-rearranged to s = only-rearranged (λ h. not (forgotten to h)) (map-rearranged (moved to) s)

-- no two of the held are alike, so no two that wait are
apart-waiting : (a : Activation) (hs : List Held) → is_held a hs ≡ false → All (λ b. alike a b ≡ false) (waiting_of hs)
unfolding waiting_of any_of
apart-waiting a [] e = tt
apart-waiting a (h ∷ hs) e =
    let ih = apart-waiting a hs (or_right (alike a h.activation) (is_held a hs) e) in
    by h.applied (λ t. rw t ih) (λ t. rw t (or_left (alike a h.activation) (is_held a hs) e, ih))

pub distinct-waiting : (hs : List Held) → two_alike hs ≡ false → Distinct (waiting_of hs)
unfolding waiting_of two_alike
distinct-waiting [] e = tt
distinct-waiting (h ∷ hs) e =
    let ih = distinct-waiting hs (or_right (is_held h.activation hs) (two_alike hs) e) in
    let ap = apart-waiting h.activation hs (or_left (is_held h.activation hs) (two_alike hs) e) in
    by h.applied (λ t. rw t ih) (λ t. rw t (ap, ih))

pub sound-distinct : (b : Book) → spoiled b ≡ false → two_alike b.held ≡ false
unfolding spoiled_by
sound-distinct b s =
    or_right (any_of (wrong b.now) b.held) (two_alike b.held)
    (or_right b.over (any_of (wrong b.now) b.held || two_alike b.held) s)

-- two tables that agree give related answers where each refusal and what follows are related
first-related : {A : Type 0} (R : A → A → Type 0) (f g : Refusal → A) (x y : A) → ((n : Refusal) → R (f n) (g n)) → R x y
    → (rows : List Row) → R (first f rows x) (first g rows y)
first-related R f g x y h k [] = k
first-related R f g x y h k (r ∷ rs) =
    let ih = first-related R f g x y h k rs in
    by r.when (λ t. rw t (h r.refusal)) (λ t. rw t ih)

module _ (b c : Book) (s : Same b c) where
  pub same-spoiled : spoiled b ≡ spoiled c
  unfolding spoiled_by
  same-spoiled =
      rw (s.over, s.now, any-rearranged (wrong c.now) s.held, two-rearranged s.held)

  module _ (a : Activation) where
    same-faults : faults b a ≡ faults c a
    same-faults =
        rw (
          same-spoiled,
          ap (λ (n : ℕ). past n a.time) s.now,
          any-rearranged (is_one a) s.held,
          ap (leb most_held) (length-rearranged s.held),
        )

    accepted : AnsweredAlike (if leb a.time b.now then applies b a else waits b a) (if leb a.time c.now then applies c a else waits c a)
    accepted =
        rw (ap (leb a.time) s.now)
        (by (leb a.time c.now)
        (λ t.
        rw t
        (record {
          answer = refl;
          book =
              record {
                over = refl;
                now = s.now;
                apps = ap (λ (l : List App). applied l a.application a.action) s.apps;
                held = back-append (record { activation = a; applied = true } ∷ []) s.held;
              };
        }))
        (λ t.
        rw t
        (record {
          answer = refl;
          book =
              record { over = refl; now = s.now; apps = s.apps; held = back-append (record { activation = a; applied = false } ∷ []) s.held };
        })))

    pub same-offer : AnsweredAlike (offer_in b a) (offer_in c a)
    unfolding offer_in
    same-offer =
        subst
        (λ (rows : List Row). AnsweredAlike (first (refused b) rows (if leb a.time b.now then applies b a else waits b a)) (offer_in c a))
        (sym same-faults)
        (first-related AnsweredAlike (refused b) (refused c) (if leb a.time b.now then applies b a else waits b a)
        (if leb a.time c.now then applies c a else waits c a) (λ n. record { answer = refl; book = s }) accepted (faults c a))

  module _ (to : ℕ) where
    pub same_move : AnsweredAlike (move_in b to) (move_in c to)
    same_move =
        by (spoiled b)
        (λ x. rw (move-35 b to x, move-35 c to (sym same-spoiled ∙ x)) (record { answer = refl; book = s })) λ x.
        by (ltb to b.now)
        (λ t.
        rw (move-31 b to x (ltb-true _ _ t), move-31 c to (sym same-spoiled ∙ x) (ltb-true _ _ (rw s.now at t)))
        (record { answer = refl; book = s }))
        (λ t.
        rw (move-advances b to x (ltb-false _ _ t), move-advances c to (sym same-spoiled ∙ x) (ltb-false _ _ (rw s.now at t)))
        (record {
          answer = ap Ok (length-rearranged (due-rearranged to s.held));
          book =
              record {
                over = refl;
                now = refl;
                apps =
                    rw s.apps
                    (ap (run_of c.apps)
                    (rearranged-sort (due-rearranged to s.held)
                    (distinct-only (reached to) (waiting_of b.held) (distinct-waiting b.held (sound-distinct b x)))));
                held = kept-rearranged to s.held;
              };
        }))

  pub same-time : time_in b ≡ time_in c
  unfolding time_in
  same-time = rw (same-spoiled, s.now)

  pub same-state : (n : ℕ) → state_in b n ≡ state_in c n
  unfolding state_in
  same-state n = rw (same-spoiled, s.apps)

-- two answers that satisfy one promise are equal
module _ (c : Clock) where
  pub one-offer : (a : Activation) (r s : Handed Heard) → r ≡ offer_to c a → s ≡ offer_to c a → r ≡ s
  one-offer a r s p q = p ∙ sym q

  pub one-move : (to : ℕ) (r s : Handed ℕ) → r ≡ move_to c to → s ≡ move_to c to → r ≡ s
  one-move to r s p q = p ∙ sym q

  pub one_time : (r s : Result ℕ Refusal) → r ≡ time_in (book_of c) → s ≡ time_in (book_of c) → r ≡ s
  one_time r s p q = p ∙ sym q

  pub one_state : (n : ℕ) (r s : Result State Refusal) → r ≡ state_in (book_of c) n → s ≡ state_in (book_of c) n → r ≡ s
  one_state n r s p q = p ∙ sym q

pub one-fresh : (r s : Clock) → r ≡ clock_of fresh → s ≡ clock_of fresh → r ≡ s
one-fresh r s p q = p ∙ sym q
