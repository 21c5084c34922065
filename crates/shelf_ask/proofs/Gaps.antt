-- Complete tables and missing numbers (document 01, "The shelf").
--   complete-exactly      a table is complete exactly when every number from 0 to its last is held
--   complete-gapless      a table is complete exactly when it has no missing number
--   missing-lacks         the lowest missing number of a table that is not complete is not above the last, and is not held,
--                         and all below it are
--   lowest-one            there is one lowest missing number
--   held-so, lacks-so      the tests say that a section is held, and that it is not
--   gap_here    whether a table is complete, by its lowest missing number
use mathlib.Core.Path.{◌≡◌, sym, ◌∙◌}
use mathlib.Core.Bool.{Bool, true, false, not}
use mathlib.Core.Logic.{◌↔◌}
use Prim.Native.Nat.{ℕ, ◌+◌, ◌<◌, ◌≤◌}
use native.Mathlib.Omega.{arith}
use lib.Dec.{eqb, ltb}
use borrow.Author.Tests.{eq-eqb, eqb-true, not-true, not-false, lt-ltb, le-ltb, ltb-true, ltb-false}
use Rattle.base.proofs.Below.{every-all, every-each, lowest-le, lowest-holds, lowest-below}
use Rattle.base.specs.Tables.{Decides}
use Rattle.base.proofs.Cases.{by, unlike}
use Rattle.base.proofs.Tables.{same, not_so}
use Rattle.shelf.specs.Record.{length_at, holds}
use Rattle.shelf.specs.Record.{Place}
use Rattle.shelf.proofs.Words.{Held}
use Rattle.std.specs.Prelude.{if◌then◌else◌, Some, None}
use Rattle.shelf_ask.specs.Ask.{complete, lowest_missing}
use Rattle.shelf_ask.specs.Calls.{found_below}

-- section n is not held
abbrev pub Lacks : Place → ℕ → Type 0
Lacks place n = length_at place n ≡ 0

pub held-so : (place : Place) (n : ℕ) → Decides (holds place n) (Held place n)
held-so place n = not_so (eqb (length_at place n) 0) (same (length_at place n) 0)

pub lacks-so : (place : Place) (n : ℕ) → Decides (not (holds place n)) (Lacks place n)
lacks-so place n = (λ e. eqb-true _ _ (not-false _ (not-true _ e)), λ e. rw (eq-eqb (length_at place n) 0 e))

abbrev pub gap : Place → ℕ → Bool
gap place n = not (holds place n)

module _ (place : Place) where
  pub complete-exactly : (complete place ≡ true) ↔ ((n : ℕ) → n ≤ place.last → Held place n)
  unfolding complete
  complete-exactly = (
    λ e n h. (held-so place n).0 (every-each (holds place) (place.last + 1) n (omega arith) e),
    λ all. every-all (holds place) (place.last + 1) (λ n h. (held-so place n).1 (all n (omega arith))),
  )

  pub missing-most : lowest_missing place ≤ place.last + 1
  unfolding lowest_missing
  missing-most = lowest-le (gap place) (place.last + 1)

  pub missing-below : (n : ℕ) → n < lowest_missing place → Held place n
  unfolding lowest_missing
  missing-below n h = (held-so place n).0 (not-false (holds place n) (lowest-below (gap place) (place.last + 1) n h))

  pub missing-itself : lowest_missing place ≤ place.last → Lacks place (lowest_missing place)
  unfolding lowest_missing
  missing-itself h = (lacks-so place (lowest_missing place)).0 (lowest-holds (gap place) (place.last + 1) (omega arith))

  pub complete-gapless : (complete place ≡ true) ↔ (lowest_missing place ≡ place.last + 1)
  complete-gapless = (
    λ e. by (ltb (lowest_missing place) (place.last + 1))
        (λ t.
        let l : lowest_missing place ≤ place.last = (let h : lowest_missing place < place.last + 1 = ltb-true _ _ t in omega arith) in
        absurd (complete-exactly.0 e (lowest_missing place) l (missing-itself l)))
        (λ f.
        let h : place.last + 1 ≤ lowest_missing place = ltb-false _ _ f in omega (arith, missing-most)),
    λ e. complete-exactly.1 (λ n h. missing-below n (omega arith)),
  )

  -- the lowest missing number of a table that is not complete
  pub record Lowest (n : ℕ) : Type 0 where
    pub most : n ≤ place.last
    pub lacks : Lacks place n
    pub below : (k : ℕ) → k < n → Held place k

  pub missing-lacks : complete place ≡ false → Lowest (lowest_missing place)
  missing-lacks e =
      by (ltb (lowest_missing place) (place.last + 1))
      (λ t.
      let l : lowest_missing place ≤ place.last = (let h : lowest_missing place < place.last + 1 = ltb-true _ _ t in omega arith) in
      record { most = l; lacks = missing-itself l; below = missing-below })
      (λ f.
      let h : place.last + 1 ≤ lowest_missing place = ltb-false _ _ f in
      let q : lowest_missing place ≡ place.last + 1 = omega (arith, missing-most) in
      absurd (unlike (sym (complete-gapless.1 q) ∙ e)))

  pub gap_here : found_below (place.last + 1) (lowest_missing place) ≡ (if complete place then None else Some (lowest_missing place))
  gap_here =
      by (complete place)
      (λ t. rw (t, complete-gapless.0 t, le-ltb (place.last + 1) (place.last + 1) (omega arith)))
      (λ f. let m = (missing-lacks f).most in rw (f, lt-ltb (lowest_missing place) (place.last + 1) (omega (arith, m))))

  pub lowest-one : (a b : ℕ) → Lowest a → Lowest b → a ≡ b
  lowest-one a b x y =
      by (ltb a b)
      (λ t. absurd (y.below a (ltb-true _ _ t) x.lacks))
      (λ f.
      by (ltb b a)
      (λ t. absurd (x.below b (ltb-true _ _ t) y.lacks))
      (λ g. let h : b ≤ a = ltb-false _ _ f in let i : a ≤ b = ltb-false _ _ g in omega arith))
