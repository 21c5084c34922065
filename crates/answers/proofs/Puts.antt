-- An answer's values, put at the front of a lent buffer.
--   puts-refused, puts-short, puts-values     each way out
--   puts-untouched                            a refused call leaves the buffer as it was
--   puts-accepted                             the answer is 0 exactly when nothing refuses it and the values fit
use mathlib.Core.Path.{◌≡◌, refl}
use mathlib.Core.List.{List, [], ◌++◌}
use mathlib.Core.Logic.{◌↔◌, ⊎_elim}
use Prim.Native.Nat.{ℕ, ◌<◌, ◌≤◌}
use native.Mathlib.Omega.{arith}
use lib.Dec.{ltb, eqb}
use lib.ListN.{length, drop}
use borrow.Author.Tests.{lt-ltb, le-ltb, ne_eqb, ltb-true, ltb-false, eqb-true, eqb-false}
use Rattle.base.proofs.Cases.{by, same_or}
use Rattle.answers.specs.Answers.{Told, told, Out, out, puts}

pub puts-refused : (n : ℕ) (old : List ℕ) → out n old ≡ puts (told n []) old
puts-refused n old =
    ⊎_elim (λ z. rw (z, le-ltb (length old) 0 (omega arith))) (λ d. rw (ne_eqb n 0 d)) (same_or n 0)

pub puts-short : (values old : List ℕ) → length old < length values → out 15 old ≡ puts (told 0 values) old
puts-short values old h = rw (lt-ltb (length old) (length values) h)

pub puts-values : (values old : List ℕ) → length values ≤ length old → out 0 (values ++ drop (length values) old) ≡ puts (told 0 values) old
puts-values values old h = rw (le-ltb (length old) (length values) h)

-- what is so of each way out is so of the call
each_way : (p : Out → Type 0) (t : Told) (old : List ℕ)
    → (0 < t.number → p (out t.number old))
    → (t.number ≡ 0 → length old < length t.values → p (out 15 old))
    → (t.number ≡ 0 → length t.values ≤ length old → p (out 0 (t.values ++ drop (length t.values) old)))
    → p (puts t old)
each_way p t old a b c =
    by (eqb t.number 0)
    (λ z.
    let e : t.number ≡ 0 = eqb-true _ _ z in
    rw z
    (by (ltb (length old) (length t.values))
    (λ x. rw x (b e (ltb-true _ _ x)))
    (λ x. rw x (c e (ltb-false _ _ x)))))
    (λ z.
    let d : ¬ (t.number ≡ 0) = eqb-false _ _ z in
    let l : 0 < t.number = omega (arith, d) in
    rw z (a l))

pub puts-untouched : (t : Told) (old : List ℕ) → ¬ ((puts t old).code ≡ 0) → (puts t old).out ≡ old
puts-untouched t old = each_way (λ o. ¬ (o.code ≡ 0) → o.out ≡ old) t old (λ _ _. refl) (λ _ _ _. refl) (λ _ _ z. absurd (z refl))

pub puts-accepted : (t : Told) (old : List ℕ) → ((puts t old).code ≡ 0) ↔ ((t.number ≡ 0) × (length t.values ≤ length old))
puts-accepted t old =
    each_way (λ o. (o.code ≡ 0) ↔ ((t.number ≡ 0) × (length t.values ≤ length old))) t old
    (λ l. (λ z. absurd (omega arith), λ w. let z : t.number ≡ 0 = w.0 in absurd (omega arith)))
    (λ e l. (λ z. absurd (omega arith), λ w. let z : length t.values ≤ length old = w.1 in absurd (omega arith)))
    (λ e l. (λ _. (e, l), λ _. refl))
