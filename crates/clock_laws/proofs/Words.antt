-- 35 in document 01's words.
--   spoiled-says, spoiled-true     `Spoiled` holds exactly where the test of the definitions does
--   holds-says, holds-true         so for "that activation is held"
use mathlib.Core.Path.{◌≡◌, sym, ◌∙◌}
use mathlib.Core.Bool.{true}
use mathlib.Core.List.{List, [], ◌∷◌}
use Prim.Native.Nat.{ℕ, zero, suc, ◌+◌, ◌<◌}
use native.Mathlib.Omega.{arith}
use lib.Dec.{ltb}
use lib.ListN.{length, get_or}
use borrow.Author.Tests.{le-leb, ltb-true, ltb-false, leb-true}
use Rattle.base.proofs.Cases.{by, unlike}
use Rattle.clock_rule.specs.Rule.{above}
use Rattle.clock_activation.specs.declared.Activation.{Activation}
use Rattle.clock_activation.specs.declared.Held.{Held}
use Rattle.clock_activation.specs.Activation.{alike, nobody}
use Rattle.clock_activation.specs.Limits.{memory}
use Rattle.clock_record.specs.Lists.{any_of}
use Rattle.clock_record.specs.Held.{is_one, is_held, two_alike, wrong, spoiled_by}
use Rattle.clock_laws.proofs.Wrong.{wrong-above, wrong-waiting, wrong-ahead, wrong-past}
use Rattle.clock_record.specs.Book.{Book, spoiled}
use Rattle.clock.specs.Spoiled.{held_at, Holds, Spoiled}
use Rattle.clock_laws.proofs.Lists.{any-which, any_at}
use Rattle.clock_laws.proofs.Alike.{alike-one, one_alike, past-says, past-true}

two-which : (l : List Held) → two_alike l ≡ true
    → (i : ℕ) × (j : ℕ) × (i < j) × (j < length l) × (alike (get_or l i nobody).activation (get_or l j nobody).activation ≡ true)
unfolding two_alike
two-which [] e = absurd (unlike (sym e))
two-which (h ∷ l) e =
    by (is_held h.activation l)
    (λ t. let w = any-which (is_one h.activation) nobody l t in (0, suc w.0, omega arith, omega arith, w.2))
    (λ t. let w = two-which l (rw t at e) in (suc w.0, suc w.1, omega arith, omega arith, w.4))

two_at : (l : List Held) (i j : ℕ) → i < j → j < length l
    → alike (get_or l i nobody).activation (get_or l j nobody).activation ≡ true → two_alike l ≡ true
unfolding two_alike
two_at [] i j h k t = absurd (omega arith)
two_at (x ∷ l) zero zero h k t = absurd (omega arith)
two_at (x ∷ l) zero (suc j) h k t = rw (any_at (is_one x.activation) nobody l j (omega arith) t)
two_at (x ∷ l) (suc i) zero h k t = absurd (omega arith)
two_at (x ∷ l) (suc i) (suc j) h k t =
    let ih = two_at l i j (omega arith) (omega arith) t in
    by (is_held x.activation l) (λ q. rw q) (λ q. rw q ih)

module _ (b : Book) where
  wrong-says : (i : ℕ) → i < length b.held → wrong b.now (held_at b i) ≡ true → Spoiled b
  wrong-says i h t =
      let x : Held = held_at b i in
      by (above x.activation.application)
      (λ k. Spoiled.above i h (leb-true _ _ k)) λ k.
      by x.applied
      (λ d.
      by (ltb b.now x.activation.time)
      (λ l. Spoiled.ahead i h d (ltb-true _ _ l))
      (λ l.
      Spoiled.past i h d
      (past-says b.now x.activation.time (sym (wrong-past b.now x k d (ltb-false _ _ l)) ∙ t))))
      (λ d. Spoiled.reached i h d (leb-true _ _ (sym (wrong-waiting b.now x k d) ∙ t)))

  pub spoiled-says : spoiled b ≡ true → Spoiled b
  unfolding spoiled_by
  spoiled-says t =
      by b.over (λ o. Spoiled.over o) λ o.
      by (any_of (wrong b.now) b.held)
      (λ a. let w = any-which (wrong b.now) nobody b.held a in wrong-says w.0 w.1 w.2) λ a.
      let w = two-which b.held (rw (o, a) at t) in
      Spoiled.alike w.0 w.1 w.2 w.3 (alike-one _ _ w.4)

  by-wrong : (i : ℕ) → i < length b.held → wrong b.now (held_at b i) ≡ true → spoiled b ≡ true
  unfolding spoiled_by
  by-wrong i h t =
      let a : any_of (wrong b.now) b.held ≡ true = any_at (wrong b.now) nobody b.held i h t in
      by b.over (λ o. rw o) (λ o. rw (o, a))

  pub spoiled-true : Spoiled b → spoiled b ≡ true
  unfolding spoiled_by
  spoiled-true (Spoiled.over o) = rw o
  spoiled-true (Spoiled.above i h k) = by-wrong i h (wrong-above b.now (held_at b i) (le-leb _ _ k))
  spoiled-true (Spoiled.alike i j h k o) =
      let t : two_alike b.held ≡ true = two_at b.held i j h k (one_alike _ _ o) in
      by b.over (λ q. rw q) (λ q. by (any_of (wrong b.now) b.held) (λ a. rw (q, a)) (λ a. rw (q, a, t)))
  spoiled-true (Spoiled.reached i h d l) =
      by-wrong i h
      (by (above (held_at b i).activation.application)
      (λ k. wrong-above b.now (held_at b i) k)
      (λ k. wrong-waiting b.now (held_at b i) k d ∙ le-leb _ _ l))
  spoiled-true (Spoiled.ahead i h d l) =
      by-wrong i h
      (by (above (held_at b i).activation.application)
      (λ k. wrong-above b.now (held_at b i) k)
      (λ k. wrong-ahead b.now (held_at b i) k d l))
  spoiled-true (Spoiled.past i h d l) =
      by-wrong i h
      (by (above (held_at b i).activation.application)
      (λ k. wrong-above b.now (held_at b i) k)
      (λ k.
      wrong-past b.now (held_at b i) k d (let g : (held_at b i).activation.time + memory < b.now = l in omega arith)
      ∙ past-true b.now (held_at b i).activation.time l))

  module _ (a : Activation) where
    pub holds-says : is_held a b.held ≡ true → Holds b a
    holds-says t = let w = any-which (is_one a) nobody b.held t in (w.0, w.1, alike-one _ _ w.2)

    pub holds-true : Holds b a → is_held a b.held ≡ true
    holds-true w = any_at (is_one a) nobody b.held w.0 w.1 (one_alike _ _ w.2)
