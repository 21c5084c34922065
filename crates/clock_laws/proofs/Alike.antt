-- Laws on two activations: alike, before, past.
--   alike_refl, alike-comm, alike-trans    alike is an equality
--   alike-one, one_alike                   it is equality of application, event and time
--   before-says, before-true               the order in words
--   before-asym, before-trans, before-total, before-unlike
--   past-says, past-true, past-later       more than 60,000 before the clock
use mathlib.Core.Path.{◌≡◌, refl, sym, ◌∙◌}
use mathlib.Core.Bool.{Bool, true, false, ◌&&◌}
use mathlib.Core.Logic.{◌⊎◌, ⊎_elim, inl, inr}
use Prim.Native.Nat.{ℕ, ◌+◌, ◌-◌, ◌<◌, ◌≤◌}
use native.Mathlib.Omega.{arith}
use lib.Dec.{ltb, eqb}
use borrow.Author.Tests.{lt-ltb, le-ltb, eq-eqb, ltb-true, ltb-false, eqb-true}
use Rattle.base.proofs.Cases.{by, unlike, and_left, and_right}
use Rattle.clock_activation.specs.declared.Activation.{Activation}
use Rattle.clock_activation.specs.Activation.{alike, before, past}
use Rattle.clock_activation.specs.Limits.{memory}
use Rattle.clock.specs.Spoiled.{One}

module _ (a b : Activation) where
  pub alike-one : alike a b ≡ true → One a b
  unfolding alike
  alike-one t =
      let p : eqb a.application b.application && eqb a.event b.event ≡ true =
      and_left (eqb a.application b.application && eqb a.event b.event) (eqb a.time b.time) t in
      record {
        application = eqb-true _ _ (and_left (eqb a.application b.application) (eqb a.event b.event) p);
        event = eqb-true _ _ (and_right (eqb a.application b.application) (eqb a.event b.event) p);
        time = eqb-true _ _ (and_right (eqb a.application b.application && eqb a.event b.event) (eqb a.time b.time) t);
      }

  pub one_alike : One a b → alike a b ≡ true
  unfolding alike
  one_alike o = rw (eq-eqb _ _ o.application, eq-eqb _ _ o.event, eq-eqb _ _ o.time)

pub one-sym : (a b : Activation) → One a b → One b a
one-sym a b o = record { application = sym o.application; event = sym o.event; time = sym o.time }

pub one-trans : (a b c : Activation) → One a b → One b c → One a c
one-trans a b c o p =
    record { application = o.application ∙ p.application; event = o.event ∙ p.event; time = o.time ∙ p.time }

pub alike_refl : (a : Activation) → alike a a ≡ true
alike_refl a = one_alike a a (record { application = refl; event = refl; time = refl })

-- where one follows from the other, both tests agree
agree : (s t : Bool) → (s ≡ true → t ≡ true) → (t ≡ true → s ≡ true) → s ≡ t
agree true true f g = refl
agree true false f g = sym (f refl)
agree false true f g = g refl
agree false false f g = refl

pub alike-comm : (a b : Activation) → alike a b ≡ alike b a
alike-comm a b =
    agree (alike a b) (alike b a)
    (λ t. one_alike b a (one-sym a b (alike-one a b t)))
    (λ t. one_alike a b (one-sym b a (alike-one b a t)))

-- what is alike to one of two that are alike is alike to the other
pub alike_same : (a b c : Activation) → alike a b ≡ true → alike a c ≡ alike b c
alike_same a b c t =
    let o = alike-one a b t in
    agree (alike a c) (alike b c)
    (λ u. one_alike b c (one-trans b a c (one-sym a b o) (alike-one a c u)))
    (λ u. one_alike a c (one-trans a b c o (alike-one b c u)))

-- by time, then application, then event
abbrev pub Before : Activation → Activation → Type 0
Before a b =
    (a.time < b.time)
    ⊎ ((a.time ≡ b.time) × ((a.application < b.application) ⊎ ((a.application ≡ b.application) × (a.event < b.event))))

module _ (a b : Activation) where
  pub before-says : before a b ≡ true → Before a b
  unfolding before
  before-says t =
      by (ltb a.time b.time) (λ p. inl (ltb-true _ _ p)) λ p.
      by (ltb b.time a.time) (λ q. absurd (unlike (sym (rw (p, q) at t)))) λ q.
      let e : a.time ≡ b.time = (let g : b.time ≤ a.time = ltb-false _ _ p in let h : a.time ≤ b.time = ltb-false _ _ q in omega arith) in
      by (ltb a.application b.application) (λ r. inr (e, inl (ltb-true _ _ r))) λ r.
      by (ltb b.application a.application) (λ s. absurd (unlike (sym (rw (p, q, r, s) at t)))) λ s.
      let f : a.application ≡ b.application =
      (let g : b.application ≤ a.application = ltb-false _ _ r in let h : a.application ≤ b.application = ltb-false _ _ s in omega arith) in
      inr (e, inr (f, ltb-true _ _ (rw (p, q, r, s) at t)))

  pub before-true : Before a b → before a b ≡ true
  unfolding before
  before-true (inl h) = rw (lt-ltb _ _ h)
  before-true (inr (e, inl h)) = rw (le-ltb a.time b.time (omega arith), le-ltb b.time a.time (omega arith), lt-ltb _ _ h)
  before-true (inr (e, inr (f, h))) =
      rw (
        le-ltb a.time b.time (omega arith),
        le-ltb b.time a.time (omega arith),
        le-ltb a.application b.application (omega arith),
        le-ltb b.application a.application (omega arith),
        lt-ltb _ _ h,
      )

-- two numbers: the first below, equal, or above
compare : (m n : ℕ) → (m < n) ⊎ ((m ≡ n) ⊎ (n < m))
compare m n =
    by (ltb m n) (λ t. inl (ltb-true _ _ t)) λ t.
    by (ltb n m) (λ u. inr (inr (ltb-true _ _ u))) λ u.
    inr (inl (let g : n ≤ m = ltb-false _ _ t in let h : m ≤ n = ltb-false _ _ u in omega arith))

never_both : (a b : Activation) → Before a b → Before b a → ⊥
never_both a b (inl h) (inl k) = omega arith
never_both a b (inl h) (inr (e, k)) = omega arith
never_both a b (inr (e, h)) (inl k) = omega arith
never_both a b (inr (e, inl h)) (inr (f, inl k)) = omega arith
never_both a b (inr (e, inl h)) (inr (f, inr (g, k))) = omega arith
never_both a b (inr (e, inr (g, h))) (inr (f, inl k)) = omega arith
never_both a b (inr (e, inr (g, h))) (inr (f, inr (i, k))) = omega arith

further : (a b c : Activation) → Before a b → Before b c → Before a c
further a b c (inl h) (inl k) = inl (omega arith)
further a b c (inl h) (inr (e, k)) = inl (omega arith)
further a b c (inr (e, h)) (inl k) = inl (omega arith)
further a b c (inr (e, inl h)) (inr (f, inl k)) = inr (e ∙ f, inl (omega arith))
further a b c (inr (e, inl h)) (inr (f, inr (g, k))) = inr (e ∙ f, inl (omega arith))
further a b c (inr (e, inr (g, h))) (inr (f, inl k)) = inr (e ∙ f, inl (omega arith))
further a b c (inr (e, inr (g, h))) (inr (f, inr (i, k))) = inr (e ∙ f, inr (g ∙ i, omega arith))

-- of two that are not one, one comes first
either_first : (a b : Activation) → (One a b → ⊥) → Before a b ⊎ Before b a
either_first a b n =
    ⊎_elim (λ h. inl (inl h))
    (⊎_elim
    (λ e.
    ⊎_elim (λ h. inl (inr (e, inl h)))
    (⊎_elim
    (λ f.
    ⊎_elim (λ h. inl (inr (e, inr (f, h))))
    (⊎_elim (λ g. absurd (n (record { application = f; event = g; time = e }))) (λ h. inr (inr (sym e, inr (sym f, h)))))
    (compare a.event b.event))
    (λ h. inr (inr (sym e, inl h))))
    (compare a.application b.application))
    (λ h. inr (inl h)))
    (compare a.time b.time)

pub before-asym : (a b : Activation) → before a b ≡ true → before b a ≡ false
before-asym a b t =
    by (before b a) (λ u. absurd (never_both a b (before-says a b t) (before-says b a u))) (λ u. u)

pub before-trans : (a b c : Activation) → before a b ≡ true → before b c ≡ true → before a c ≡ true
before-trans a b c t u = before-true a c (further a b c (before-says a b t) (before-says b c u))

pub before-total : (a b : Activation) → alike a b ≡ false → before a b ≡ false → before b a ≡ true
before-total a b n t =
    ⊎_elim (λ h. absurd (unlike (sym (before-true a b h) ∙ t))) (λ h. before-true b a h)
    (either_first a b (λ o. unlike (sym (one_alike a b o) ∙ n)))

pub before-unlike : (a b : Activation) → before a b ≡ true → alike a b ≡ false
before-unlike a b t = by (alike a b) (λ u. absurd (apart (before-says a b t) (alike-one a b u))) (λ u. u)
  where
    apart : Before a b → One a b → ⊥
    apart (inl h) o = omega arith
    apart (inr (e, inl h)) o = omega arith
    apart (inr (e, inr (f, h))) o = omega arith

module _ (now time : ℕ) where
  pub past-says : past now time ≡ true → time + memory < now
  unfolding past
  past-says t = let h : memory < now - time = ltb-true _ _ t in omega arith

  pub past-true : time + memory < now → past now time ≡ true
  unfolding past
  past-true h = lt-ltb memory (now - time) (omega arith)

  pub young-says : past now time ≡ false → now ≤ time + memory
  unfolding past
  young-says t = let h : now - time ≤ memory = ltb-false _ _ t in omega arith

  pub young-true : now ≤ time + memory → past now time ≡ false
  unfolding past
  young-true h = le-ltb memory (now - time) (omega arith)

pub past-later : (now to time : ℕ) → now ≤ to → past now time ≡ true → past to time ≡ true
past-later now to time h t = past-true to time (let g : time + memory < now = past-says now time t in omega arith)
