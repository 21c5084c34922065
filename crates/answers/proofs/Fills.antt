-- The laws of a call that fills an output.
--   size_back, refusal-back   a size, and a refusal, come back out of an answer
--   through                   a table's answer under a view is the table of the views
--   refused-fills             a refusal keeps the laws
--   fills                     a call that is answered by a table of refusals keeps the laws
--   zero-exactly              the low 8 bits are 0 exactly when no row of the table holds
use mathlib.Core.Path.{◌≡◌, refl, ap}
use mathlib.Core.List.{List, [], ◌∷◌}
use mathlib.Core.Logic.{◌↔◌}
use Prim.Native.Nat.{ℕ, ◌%◌, ◌^◌, ◌<◌}
use native.Mathlib.Omega.{arith}
use lib.ListN.{length}
use borrow.Author.Tests.{eq-eqb, ne_eqb}
use Rattle.refusal.specs.Refusal.{number}
use Rattle.refusal.specs.declared.Refusal.{Refusal}
use Rattle.refusal.proofs.Numbers.{in_byte}
use Rattle.base.specs.Choice.{Row, first}
use Rattle.base.specs.Tables.{Rule, None, Agree, Each}
use Rattle.base.proofs.Cases.{by}
use Rattle.base.proofs.Tables.{among, denied}
use Rattle.answers.specs.Answers.{out, size_code, size_or, filled, Fills}

module _ {A : Type 0} (bytes refused : ℕ → A) (n : ℕ) where
  pub size_back : n < 2 ^ 16 → size_or bytes refused (size_code n) ≡ bytes n
  size_back h = rw (eq-eqb (size_code n % 2 ^ 8) 0 (omega arith)) (ap bytes (omega arith))

  pub refusal-back : 0 < n → n < 2 ^ 8 → size_or bytes refused n ≡ refused n
  refusal-back l h = rw (ne_eqb (n % 2 ^ 8) 0 (omega arith))

pub through : {A B : Type 0} (view : A → B) (refused : Refusal → A) (rs : List Row) (other : A)
    → view (first refused rs other) ≡ first (λ r. view (refused r)) rs (view other)
through view refused [] other = refl
through view refused (r ∷ rs) other = by r.when (λ t. rw t) (λ f. rw f (through view refused rs other))

pub refused-fills : (bytes old : List ℕ) (n : ℕ) → 0 < n → n < 2 ^ 8 → Fills bytes old (out n old)
refused-fills bytes old n low high =
    record {
      untouched = λ _. refl;
      accepted = (λ z. absurd (omega arith), λ q. let z : n ≡ size_code (length bytes) = ap (λ o. o.code) q in absurd (omega arith));
      size = λ z. absurd (omega arith);
    }

refusals-keep : (bytes old : List ℕ) (rs : List Row) → Each (λ r. Fills bytes old (out (number r) old)) rs
refusals-keep bytes old [] = tt
refusals-keep bytes old (r ∷ rs) =
    let b = in_byte r.refusal in
    (refused-fills bytes old (number r.refusal) b.0 b.1, refusals-keep bytes old rs)

pub fills : (bytes old : List ℕ) (rs : List Row) → length bytes < 2 ^ 16
    → Fills bytes old (first (λ r. out (number r) old) rs (filled bytes old))
fills bytes old rs h =
    among (λ r. out (number r) old) (Fills bytes old) rs (filled bytes old) (refusals-keep bytes old rs)
    (record {
      untouched = λ n. absurd (n (omega arith));
      accepted = (λ _. refl, λ _. omega arith);
      size = λ _. omega arith;
    })

-- the low 8 bits of a table's number are 0 exactly when no row holds, where what follows has none there
pub zero-exactly : (rs : List Row) (ws : List Rule) → Agree rs ws → (other : ℕ) → other % 2 ^ 8 ≡ 0
    → (first number rs other % 2 ^ 8 ≡ 0) ↔ None ws
zero-exactly [] [] g other z = (λ _. tt, λ _. z)
zero-exactly [] (w ∷ ws) g other z = absurd g
zero-exactly (r ∷ rs) [] g other z = absurd g
zero-exactly (r ∷ rs) (w ∷ ws) g other z =
    let low : 0 < number r.refusal = (in_byte r.refusal).0 in
    let high : number r.refusal < 256 = (in_byte r.refusal).1 in
    let rest = zero-exactly rs ws g.2 other z in
    by r.when
    (λ t. rw t (λ y. absurd (omega arith), λ n. absurd (n.0 (g.1.0 t))))
    (λ f. rw f (λ y. (denied r.when g.1 f, rest.0 y), λ n. rest.1 n.1))
