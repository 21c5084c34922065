-- The numbers of two activations are equal where they are alike, and rise in the order of a move.
--   same_digits, code_alike, code-before
use mathlib.Core.Path.{◌≡◌}
use Prim.Native.Nat.{ℕ, ◌+◌, ◌*◌, ◌<◌, ◌≤◌}
use native.Mathlib.Omega.{arith}
use native.Mathlib.Nat.{suc-mul, mul-le-mul_right}
use lib.Dec.{ltb, eqb}
use borrow.Author.Tests.{lt-ltb, le-ltb, eq-eqb, ne_eqb, ltb-true, ltb-false, eqb-true, eqb-false}
use Rattle.base.proofs.Cases.{by}
use Rattle.clock_activation.specs.declared.Activation.{Activation}
use Rattle.clock_activation.specs.Activation.{alike, before}
use Rattle.clock_activation.specs.Code.{code_of, Narrow}

-- a number with a higher upper part is higher
higher : (k x y e : ℕ) → x < y → e < k → x * k + e < y * k
higher k x y e h l = let g : x * k + k ≤ y * k = rw suc-mul at (mul-le-mul_right k h) in omega arith

-- so equal numbers have equal parts
pub same_digits : (k x y e f : ℕ) → e < k → f < k → x * k + e ≡ y * k + f → (x ≡ y) × (e ≡ f)
same_digits k x y e f l m q =
    by (ltb x y) (λ t. absurd (let h : x * k + e < y * k = higher k x y e (ltb-true _ _ t) l in omega arith)) λ t.
    by (ltb y x) (λ u. absurd (let h : y * k + f < x * k = higher k y x f (ltb-true _ _ u) m in omega arith)) λ u.
    let s : x ≡ y = (let g : y ≤ x = ltb-false _ _ t in let h : x ≤ y = ltb-false _ _ u in omega arith) in
    (s, let r : y * k + e ≡ y * k + f = rw s at q in omega arith)

module _ (a b : Activation) (m : Narrow a) (n : Narrow b) where
  -- equal numbers have equal digits
  digits : (a.time * 256 + a.application) * 65536 + a.event ≡ (b.time * 256 + b.application) * 65536 + b.event
      → (a.application ≡ b.application) × (a.event ≡ b.event) × (a.time ≡ b.time)
  digits e =
      let u = same_digits 65536 (a.time * 256 + a.application) (b.time * 256 + b.application) a.event b.event m.event n.event e in
      let v = same_digits 256 a.time b.time a.application b.application m.application n.application u.0 in
      (v.1, u.1, v.0)

  pub code_alike : eqb (code_of a) (code_of b) ≡ alike a b
  unfolding code_of alike
  code_alike =
      by (eqb a.application b.application)
      (λ p.
      by (eqb a.event b.event)
      (λ q.
      by (eqb a.time b.time)
      (λ r. rw (p, q, r) (eq-eqb (code_of a) (code_of b) (rw (eqb-true a.application b.application p, eqb-true a.event b.event q, eqb-true a.time b.time r))))
      (λ r. rw (p, q, r) (ne_eqb (code_of a) (code_of b) (λ e. eqb-false _ _ r (digits e).2))))
      (λ q. rw (p, q) (ne_eqb (code_of a) (code_of b) (λ e. eqb-false _ _ q (digits e).1))))
      (λ p. rw p (ne_eqb (code_of a) (code_of b) (λ e. eqb-false _ _ p (digits e).0)))

  pub code-before : ltb (code_of a) (code_of b) ≡ before a b
  unfolding code_of before
  code-before =
      let p : a.application < 256 = m.application in
      let q : b.application < 256 = n.application in
      let r : a.event < 65536 = m.event in
      let s : b.event < 65536 = n.event in
      let x : ℕ = (a.time * 256 + a.application) * 65536 + a.event in
      let y : ℕ = (b.time * 256 + b.application) * 65536 + b.event in
      by (ltb a.time b.time)
      (λ t. rw t (lt-ltb x y (let h : a.time < b.time = ltb-true _ _ t in omega arith))) λ t.
      let ht : b.time ≤ a.time = ltb-false _ _ t in
      by (ltb b.time a.time)
      (λ u. rw (t, u) (le-ltb x y (let h : b.time < a.time = ltb-true _ _ u in omega arith))) λ u.
      let hu : a.time ≤ b.time = ltb-false _ _ u in
      by (ltb a.application b.application)
      (λ v. rw (t, u, v) (lt-ltb x y (let h : a.application < b.application = ltb-true _ _ v in omega arith))) λ v.
      let hv : b.application ≤ a.application = ltb-false _ _ v in
      by (ltb b.application a.application)
      (λ w. rw (t, u, v, w) (le-ltb x y (let h : b.application < a.application = ltb-true _ _ w in omega arith))) λ w.
      let hw : a.application ≤ b.application = ltb-false _ _ w in
      by (ltb a.event b.event)
      (λ z. rw (t, u, v, w, z) (lt-ltb x y (let h : a.event < b.event = ltb-true _ _ z in omega arith)))
      (λ z. rw (t, u, v, w, z) (le-ltb x y (let h : b.event ≤ a.event = ltb-false _ _ z in omega arith)))
