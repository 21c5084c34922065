-- Laws on tables of refusals.
--   first-split        a table in two parts is the first part, then the second
--   stops              where a table refuses one answer, any other is refused by the same
--   goes               where no row holds, the answer is what follows
--   clear, passed      where a table lets an answer pass, no row holds and the answer is that one
--   passed-left, passed-right   no row of a part holds
use mathlib.Core.Path.{◌≡◌, refl}
use mathlib.Core.Bool.{false}
use mathlib.Core.List.{List, [], ◌∷◌, ◌++◌}
use Rattle.std.specs.Prelude.{Result, Ok, Err}
use Rattle.refusal.specs.declared.Refusal.{Refusal}
use Rattle.base.specs.Choice.{Row, first}
use Rattle.base.proofs.Cases.{by}
use Rattle.trigger_faults.specs.Parts.{fault_of}

pub first-split : {A : Type 0} (refused : Refusal → A) (rows rest : List Row) (other : A)
    → first refused (rows ++ rest) other ≡ first refused rows (first refused rest other)
first-split refused [] rest other = refl
first-split refused (r ∷ rows) rest other =
    let ih = first-split refused rows rest other in by r.when (λ t. rw t) (λ f. rw f ih)

pub stops : {A B : Type 0} (refused : Refusal → A) (rows : List Row) (other : A) (b : B) (r : Refusal)
    → Err r ≡ first Err rows (Ok b)
    → refused r ≡ first refused rows other
stops refused [] other b r e = cc
stops refused (row ∷ rows) other b r e =
    by row.when
    (λ t. let q : Err r ≡ Err row.refusal = rw t at e in rw t cc)
    (λ f. rw f (stops refused rows other b r (rw f at e)))

-- no row holds
abbrev pub Passed : List Row → Type 0
Passed [] = Unit {0}
Passed (r ∷ rows) = (r.when ≡ false) × Passed rows

pub clear : {A : Type 0} (rows : List Row) (p q : A) → first Err rows (Ok p) ≡ Ok q → Passed rows × (q ≡ p)
clear [] p q e = (tt, cc)
clear {A} (r ∷ rows) p q e =
    by r.when
    (λ t. let h : ◌≡◌ {A = Result A Refusal} (Err r.refusal) (Ok q) = rw t at e in cc)
    (λ f. let c = clear rows p q (rw f at e) in ((f, c.0), c.1))

pub passed : (rows : List Row) → fault_of rows ≡ Ok tt → Passed rows
passed rows e = (clear rows tt tt e).0

pub passed-left : (rows rest : List Row) → Passed (rows ++ rest) → Passed rows
passed-left [] rest p = tt
passed-left (r ∷ rows) rest p = (p.0, passed-left rows rest p.1)

pub passed-right : (rows rest : List Row) → Passed (rows ++ rest) → Passed rest
passed-right [] rest p = p
passed-right (r ∷ rows) rest p = passed-right rows rest p.1

pub goes : {A : Type 0} (refused : Refusal → A) (rows : List Row) (other : A) → Passed rows → first refused rows other ≡ other
goes refused [] other p = refl
goes refused (r ∷ rows) other p = rw p.0 (goes refused rows other p.1)
