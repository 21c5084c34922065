-- The two ways in which a call keeps its laws.
--   tells-no, tells-yes     a refusal, and an answer that is none, are told
--   keeps-no, keeps-yes     so by a call that leaves all as it was, and by one that is accepted
use mathlib.Core.Path.{◌≡◌, refl, ap}
use mathlib.Core.List.{List}
use Prim.Native.Nat.{ℕ, ◌<◌, ◌^◌}
use native.Mathlib.Omega.{arith}
use Rattle.std.specs.Prelude.{Result, Ok, Err}
use Rattle.refusal.specs.Refusal.{number}
use Rattle.refusal.specs.declared.Refusal.{Refusal}
use Rattle.refusal.proofs.Numbers.{in_byte}
use Rattle.answers.specs.Answers.{lent, refusal_in}
use Rattle.shelf_answers.specs.Laws.{Tells, Keeps}

module _ {A : Type 0} (back : ℕ → Result A Refusal) where
  -- a refusal has 8 bits and is not 0
  module _ (r : Refusal) (b : back (number r) ≡ Err r) where
    pub tells-no : Tells back (Err r) (number r)
    tells-no =
        let n = number r in
        let low : 0 < n = (in_byte r).0 in
        let high : n < 2 ^ 8 = (in_byte r).1 in
        record {
          accepted = (λ z. absurd (omega arith), λ f. absurd (f r refl));
          number =
              λ s e.
              let same : r ≡ s = cc in
              let q : n ≡ number s = ap number same in
              (q, omega arith);
          comes_back = b;
        }

    pub keeps-no : (words store : List ℕ) → Keeps back (Err r) words store (lent (number r) words store)
    keeps-no words store = record { tells = tells-no; untouched = λ _. (refl, refl) }

  module _ (answer : A) (code : ℕ) (z : refusal_in code ≡ 0) (b : back code ≡ Ok answer) where
    none : (r : Refusal) → ◌≡◌ {A = Result A Refusal} (Ok answer) (Err r) → ⊥
    none r e = let y : ◌≡◌ {A = ℕ} 0 1 = cc in omega arith

    pub tells-yes : Tells back (Ok answer) code
    tells-yes = record { accepted = (λ _. none, λ _. z); number = λ r e. absurd (none r e); comes_back = b }

    pub keeps-yes : (words store kept left : List ℕ) → Keeps back (Ok answer) words store (lent code kept left)
    keeps-yes words store kept left = record { tells = tells-yes; untouched = λ n. absurd (n z) }
