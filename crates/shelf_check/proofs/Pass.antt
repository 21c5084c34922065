-- What the pass over sixteen has shown after i of them, four tests taken apart, and what the chain of tests shows of the heads.
use mathlib.Core.Path.{◌≡◌, sym, ◌∙◌}
use mathlib.Core.Logic.{⊎_elim}
use mathlib.Core.List.{List}
use mathlib.Core.Bool.{Bool, true, false, not, ◌&&◌, ◌||◌}
use Prim.Native.Nat.{ℕ, zero, suc, ◌+◌, ◌<◌, ◌≤◌}
use native.Mathlib.Omega.{arith}
use lib.Dec.{eqb, leb}
use borrow.Author.Tests.{leb-true, eqb-false, not-true, not-false}
use Rattle.base.proofs.Cases.{same_or, and_left, and_right, or_left, or_right}
use Rattle.shelf_check.specs.Fine.{FineColumn, FineColumns, FineMasks, Apart, NoneAbove, OneHeld, wide_number}
use Rattle.shelf.specs.Record.{alike}
use Rattle.shelf.specs.Layout.{key_number, place_in}
use Rattle.shelf_check.proofs.Whole.{differ, differ-wide}

module _ (words : List ℕ) where
  -- where nothing has stopped the pass, the first i columns are fine
  pub record Seen (stops : Bool) (i : ℕ) : Type 0 where
    pub each : stops ≡ false → (k : ℕ) → k < i → FineColumn words k

  pub seen_none : (stops : Bool) → Seen stops 0
  seen_none stops = record { each = λ t k h. absurd (omega arith) }

  pub seen_more : {stops head length : Bool} (i : ℕ) → Seen stops i → (head ≡ false → length ≡ false → FineColumn words i) → Seen (stops || (head || length)) (i + 1)
  seen_more {stops} {head} {length} i s f =
      record {
        each =
            λ t k h.
            let now = or_right stops (head || length) t in
            ⊎_elim
            (λ (e : k ≡ i). rw e (f (or_left head length now) (or_right head length now)))
            (λ d. s.each (or_left stops (head || length) t) k (omega (arith, d)))
            (same_or k i);
      }

  pub seen_all : {stops : Bool} {i : ℕ} → Seen stops i → i ≡ 16 → stops ≡ false → FineColumns words
  seen_all s e t k h = s.each t k (omega arith)

-- a fact of each of four
pub four : (P : ℕ → Type 0) → P 0 → P 1 → P 2 → P 3 → (p : ℕ) → p < 4 → P p
four P a b c d zero h = a
four P a b c d (suc zero) h = b
four P a b c d (suc (suc zero)) h = c
four P a b c d (suc (suc (suc zero))) h = d
four P a b c d (suc (suc (suc (suc p)))) h = absurd (omega arith)

pub four-true : (a b c d : Bool) → (a && b) && (c && d) ≡ true → (a ≡ true) × (b ≡ true) × (c ≡ true) × (d ≡ true)
four-true a b c d e =
    let x = and_left (a && b) (c && d) e in
    let y = and_right (a && b) (c && d) e in
    (and_left a b x, and_right a b x, and_left c d y, and_right c d y)

-- a call's result, its promise, and the test of it
pub at_most : {r x : ℕ} (n : ℕ) → r ≡ x → leb r n ≡ true → x ≤ n
at_most {r} n e t = rw (sym e) (leb-true r n t)

-- a fact of each pair of four
pair : (P : ℕ → ℕ → Type 0) → P 0 1 → P 0 2 → P 1 2 → P 0 3 → P 1 3 → P 2 3 → (p q : ℕ) → p < q → q < 4 → P p q
pair P a b c d e f p zero h k = absurd (omega arith)
pair P a b c d e f zero (suc zero) h k = a
pair P a b c d e f (suc p) (suc zero) h k = absurd (omega arith)
pair P a b c d e f zero (suc (suc zero)) h k = b
pair P a b c d e f (suc zero) (suc (suc zero)) h k = c
pair P a b c d e f (suc (suc p)) (suc (suc zero)) h k = absurd (omega arith)
pair P a b c d e f zero (suc (suc (suc zero))) h k = d
pair P a b c d e f (suc zero) (suc (suc (suc zero))) h k = e
pair P a b c d e f (suc (suc zero)) (suc (suc (suc zero))) h k = f
pair P a b c d e f (suc (suc (suc p))) (suc (suc (suc zero))) h k = absurd (omega arith)
pair P a b c d e f p (suc (suc (suc (suc q)))) h k = absurd (omega arith)

-- the last link of a chain, and what is before it
link : (a b : Bool) → a || b ≡ false → (a ≡ false) × (b ≡ false)
link a b e = (or_left a b e, or_right a b e)

module _ (words : List ℕ) where
  -- a chain over the masks of which none stops the pass
  pub masks-fine :
      {low a b c d : Bool}
      → (low ≡ true → (p : ℕ) → p < 4 → NoneAbove words p)
      → (a ≡ false → OneHeld words 0)
      → (b ≡ false → OneHeld words 1)
      → (c ≡ false → OneHeld words 2)
      → (d ≡ false → OneHeld words 3)
      → (((not low || a) || b) || c) || d ≡ false
      → FineMasks words
  masks-fine {low} f g h k l e =
      let x = link _ _ e in
      let y = link _ _ x.0 in
      let z = link _ _ y.0 in
      let w = link _ _ z.0 in
      record { low = f (not-false low w.0); held = four (OneHeld words) (g w.1) (h z.1) (k y.1) (l x.1) }

  -- numbers of which no two are the same, where the same key has the same number
  apart_by :
      (number : ℕ → ℕ)
      → ((p q : ℕ) → ¬ (number p ≡ number q) → alike (place_in words p) (place_in words q) ≡ false)
      → {m n o q : ℕ}
      → m ≡ number 0
      → n ≡ number 1
      → o ≡ number 2
      → q ≡ number 3
      → (eqb m n ≡ false) × (eqb m o ≡ false) × (eqb n o ≡ false) × (eqb m q ≡ false) × (eqb n q ≡ false) × (eqb o q ≡ false)
      → Apart words
  apart_by number other i j s t e =
      record {
        pair =
            pair (λ p q. alike (place_in words p) (place_in words q) ≡ false)
            (other 0 1 (λ z. eqb-false _ _ e.0 (i ∙ z ∙ sym j)))
            (other 0 2 (λ z. eqb-false _ _ e.1 (i ∙ z ∙ sym s)))
            (other 1 2 (λ z. eqb-false _ _ e.2 (j ∙ z ∙ sym s)))
            (other 0 3 (λ z. eqb-false _ _ e.3 (i ∙ z ∙ sym t)))
            (other 1 3 (λ z. eqb-false _ _ e.4 (j ∙ z ∙ sym t)))
            (other 2 3 (λ z. eqb-false _ _ e.5 (s ∙ z ∙ sym t)));
      }

  module _ {m n o q : ℕ} where
    -- the heads
    module _ (i : m ≡ key_number words 0) (j : n ≡ key_number words 1) (s : o ≡ key_number words 2) (t : q ≡ key_number words 3) where
      pub heads-fine :
          {stop : Bool}
          → (stop ≡ false → FineMasks words)
          → (((((stop || eqb m n) || eqb m o) || eqb n o) || eqb m q) || eqb n q) || eqb o q ≡ false
          → FineMasks words × Apart words
      heads-fine f e =
          let oq = link _ _ e in
          let nq = link _ _ oq.0 in
          let mq = link _ _ nq.0 in
          let no = link _ _ mq.0 in
          let mo = link _ _ no.0 in
          let mn = link _ _ mo.0 in
          (f mn.0, apart_by (key_number words) (differ words) i j s t (mn.1, mo.1, no.1, mq.1, nq.1, oq.1))

    -- heads and lists
    pub lists-fine :
        m ≡ wide_number words 0
        → n ≡ wide_number words 1
        → o ≡ wide_number words 2
        → q ≡ wide_number words 3
        → not (((((eqb m n || eqb m o) || eqb n o) || eqb m q) || eqb n q) || eqb o q) ≡ true
        → Apart words
    lists-fine i j s t e =
        let oq = link _ _ (not-true _ e) in
        let nq = link _ _ oq.0 in
        let mq = link _ _ nq.0 in
        let no = link _ _ mq.0 in
        let mo = link _ _ no.0 in
        apart_by (wide_number words) (differ-wide words) i j s t (mo.0, mo.1, no.1, mq.1, nq.1, oq.1)

-- where the heads begin alike
pub both-fine : {words : List ℕ} {stop r : Bool} → (stop ≡ false → FineMasks words) → (r ≡ true → Apart words) → not stop && r ≡ true → FineMasks words × Apart words
both-fine {stop = stop} {r = r} f g e = (f (not-true stop (and_left (not stop) r e)), g (and_right (not stop) r e))
