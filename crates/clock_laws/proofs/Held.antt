-- Laws on what is held, as a call changes it.
--   run-append                             applied one after another
--   waiting-append, waiting_kept           what waits
--   two-more, two-kept                     no two alike
--   wrong-now, wrong-later, wrong-kept     none wrong
--   held-more, held-alike, held_kept       what is held
--   held_any, activations-kept             so of the held activations, as a list
use mathlib.Core.Path.{◌≡◌, refl, sym, ap, ◌∙◌}
use mathlib.Core.Bool.{Bool, true, false, not, ◌||◌}
use mathlib.Core.Logic.{◌⊎◌, ⊎_elim, inl, inr}
use mathlib.Core.List.{List, [], ◌∷◌, ◌++◌, map}
use Prim.Native.Nat.{ℕ, ◌+◌, ◌<◌, ◌≤◌}
use native.Mathlib.Omega.{arith}
use lib.Dec.{ltb}
use borrow.Author.Tests.{ltb-true, ltb-false, le-leb, leb-true}
use Rattle.base.proofs.Cases.{by, unlike, or_left, or_right, and_right}
use Rattle.clock_rule.specs.declared.App.{App}
use Rattle.clock_rule.specs.Rule.{above, applied}
use Rattle.clock_activation.specs.declared.Activation.{Activation}
use Rattle.clock_activation.specs.declared.Held.{Held}
use Rattle.clock_activation.specs.Activation.{alike, past}
use Rattle.clock_activation.specs.Limits.{memory}
use Rattle.clock_record.specs.Lists.{any_of, only_of}
use Rattle.clock_record.specs.Held.{is_held, two_alike, wrong}
use Rattle.clock_record.specs.Waiting.{waiting_of, reached}
use Rattle.clock_laws.proofs.Wrong.{wrong-above, wrong-waiting, wrong-ahead, wrong-past}
use Rattle.clock_due.specs.Order.{run_of}
use Rattle.clock_keep.specs.Keep.{moved, forgotten, kept_of}
use Rattle.clock_laws.proofs.Alike.{alike-one, alike-comm, alike_same, past-says}

pub run-append : (apps : List App) (l r : List Activation) → run_of apps (l ++ r) ≡ run_of (run_of apps l) r
unfolding run_of
run-append apps [] r = refl
run-append apps (a ∷ l) r = run-append (applied apps a.application a.action) l r

pub waiting-append : (l r : List Held) → waiting_of (l ++ r) ≡ waiting_of l ++ waiting_of r
unfolding waiting_of
waiting-append [] r = refl
waiting-append (h ∷ l) r =
    let ih = waiting-append l r in
    by h.applied (λ t. rw t ih) (λ t. rw t (ap (◌∷◌ h.activation) ih))

-- a new one that is not held is alike to none
pub two-more : (l : List Held) (h : Held) → two_alike l ≡ false → is_held h.activation l ≡ false → two_alike (l ++ (h ∷ [])) ≡ false
unfolding two_alike any_of
two-more [] h e f = refl
two-more (x ∷ l) h e f =
    let ih = two-more l h (or_right (is_held x.activation l) (two_alike l) e) (or_right (alike h.activation x.activation) (is_held h.activation l) f) in
    rw (free l (or_left (is_held x.activation l) (two_alike l) e)) ih
  where
    free : (l : List Held) → is_held x.activation l ≡ false → is_held x.activation (l ++ (h ∷ [])) ≡ false
    free [] e = rw (alike-comm x.activation h.activation ∙ or_left (alike h.activation x.activation) (is_held h.activation l) f)
    free (y ∷ m) e =
        rw (or_left (alike x.activation y.activation) (is_held x.activation m) e)
        (free m (or_right (alike x.activation y.activation) (is_held x.activation m) e))

-- what a move keeps has no two alike if what was held has none
module _ (to : ℕ) where
  free-kept : (a : Activation) (l : List Held) → is_held a l ≡ false → is_held a (kept_of to l) ≡ false
  unfolding kept_of only_of any_of
  free-kept a [] e = refl
  free-kept a (x ∷ l) e =
      let ih = free-kept a l (or_right (alike a x.activation) (is_held a l) e) in
      by (forgotten to (moved to x))
      (λ t. rw t ih)
      (λ t. rw (t, or_left (alike a x.activation) (is_held a l) e) ih)

  pub two-kept : (l : List Held) → two_alike l ≡ false → two_alike (kept_of to l) ≡ false
  unfolding kept_of only_of two_alike
  two-kept [] e = refl
  two-kept (x ∷ l) e =
      let ih = two-kept l (or_right (is_held x.activation l) (two_alike l) e) in
      let f = free-kept x.activation l (or_left (is_held x.activation l) (two_alike l) e) in
      by (forgotten to (moved to x))
      (λ t. rw t ih)
      (λ t. rw (t, f) ih)

  -- those that a move does not reach still wait
  pub waiting_kept : (l : List Held) → waiting_of (kept_of to l) ≡ only_of (λ a. not (reached to a)) (waiting_of l)
  unfolding kept_of only_of waiting_of
  waiting_kept [] = refl
  waiting_kept (x ∷ l) =
      let ih = waiting_kept l in
      by x.applied
      (λ d. by (past to x.activation.time) (λ p. simp (d, p) ih) (λ p. simp (d, p) ih))
      (λ d.
      by (reached to x.activation)
      (λ r. by (past to x.activation.time) (λ p. simp (d, r, p) ih) (λ p. simp (d, r, p) ih))
      (λ r. simp (d, r) (ap (◌∷◌ x.activation) ih)))

-- one that is not wrong
module _ (now : ℕ) (h : Held) (right : wrong now h ≡ false) where
  pub right-known : above h.activation.application ≡ false
  right-known = by (above h.activation.application) (λ k. absurd (unlike (sym (wrong-above now h k) ∙ right))) (λ k. k)

  pub right-reached : h.applied ≡ true → h.activation.time ≤ now
  right-reached d =
      by (ltb now h.activation.time)
      (λ t. absurd (unlike (sym (wrong-ahead now h right-known d (ltb-true _ _ t)) ∙ right)))
      (λ t. ltb-false _ _ t)

  -- what a move keeps is not wrong at its time
  pub right_kept : (to : ℕ) → now ≤ to → forgotten to (moved to h) ≡ false → wrong to (moved to h) ≡ false
  right_kept to l f =
      by h.applied
      (λ d. applied-kept (rw d refl) (let g : h.activation.time ≤ now = right-reached d in omega arith))
      (λ d.
      by (reached to h.activation)
      (λ r. applied-kept (rw (d, r) refl) (leb-true _ _ r))
      (λ r. wrong-waiting to (moved to h) right-known (rw (d, r) refl) ∙ r))
    where
      applied-kept : (moved to h).applied ≡ true → h.activation.time ≤ to → wrong to (moved to h) ≡ false
      applied-kept d g =
          wrong-past to (moved to h) right-known d g ∙ (rw d at f)

module _ (now to : ℕ) (l : now ≤ to) where
  pub any-kept : (hs : List Held) → any_of (wrong now) hs ≡ false → any_of (wrong to) (kept_of to hs) ≡ false
  unfolding kept_of only_of any_of
  any-kept [] e = refl
  any-kept (h ∷ hs) e =
      let ih = any-kept hs (or_right (wrong now h) (any_of (wrong now) hs) e) in
      by (forgotten to (moved to h))
      (λ t. rw t ih)
      (λ t. rw (t, right_kept now h (or_left (wrong now h) (any_of (wrong now) hs) e) to l t) ih)

-- those alike are held alike
pub held-alike : (a x : Activation) → alike a x ≡ true → (l : List Held) → is_held a l ≡ is_held x l
unfolding any_of
held-alike a x t [] = refl
held-alike a x t (h ∷ l) = rw (alike_same a x h.activation t) (ap (λ (b : Bool). alike x h.activation || b) (held-alike a x t l))

-- what was held is still held after a move, or is past its memory
pub held_kept : (to : ℕ) (x : Activation) (l : List Held) → is_held x l ≡ true
    → (is_held x (kept_of to l) ≡ true) ⊎ (past to x.time ≡ true)
unfolding kept_of only_of any_of
held_kept to x [] e = absurd (unlike (sym e))
held_kept to x (h ∷ l) e =
    by (alike x h.activation)
    (λ a.
    by (forgotten to (moved to h))
    (λ f. inr (rw (alike-one x h.activation a).time (and_right (moved to h).applied (past to h.activation.time) f)))
    (λ f. inl (rw (f, a))))
    (λ a.
    let ih = held_kept to x l (rw a at e) in
    by (forgotten to (moved to h))
    (λ f. rw f ih)
    (λ f. ⊎_elim (λ i. inl (rw (f, a) i)) (λ i. inr i) ih))

-- an activation is held where one of the held activations is alike
pub held_any : (a : Activation) (l : List Held) → is_held a l ≡ any_of (alike a) (map (λ (h : Held). h.activation) l)
unfolding any_of
held_any a [] = refl
held_any a (h ∷ l) = ap (λ (b : Bool). alike a h.activation || b) (held_any a l)

module _ (to : ℕ) where
  -- what is past its memory was reached, so a move forgets exactly that
  forgotten-past : (h : Held) → forgotten to (moved to h) ≡ past to h.activation.time
  forgotten-past h =
      by (h.applied || reached to h.activation)
      (λ d. rw d)
      (λ d.
      by (past to h.activation.time)
      (λ p.
      let g : h.activation.time + memory < to = past-says to h.activation.time p in
      absurd (unlike (sym (le-leb h.activation.time to (omega arith)) ∙ or_right h.applied (reached to h.activation) d)))
      (λ p. rw (d, p)))

  pub activations-kept : (l : List Held)
      → map (λ (h : Held). h.activation) (kept_of to l) ≡ only_of (λ a. not (past to a.time)) (map (λ (h : Held). h.activation) l)
  unfolding kept_of only_of
  activations-kept [] = refl
  activations-kept (h ∷ l) =
      let ih = activations-kept l in
      by (past to h.activation.time)
      (λ p. rw (forgotten-past h ∙ p, p) ih)
      (λ p. rw (forgotten-past h ∙ p, p) (ap (◌∷◌ h.activation) ih))
