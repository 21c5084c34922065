-- The rules by which a proof follows the tests of the code through a definition.
--   tests     the code's comparisons, as the definition's tests
--   cascade   the same under `&&`, `||` and `not`
use mathlib.Core.Path.{◌≡◌, sym, ◌∙◌}
use mathlib.Core.Bool.{Bool, true, false, ◌&&◌, ◌||◌}
use borrow.Author.Rules.{rules}
use borrow.Author.Tests.{lt-ltb, le-ltb, le-leb, lt-leb, eq-eqb, ne_eqb, not-true, not-false}

pub and_no : {a : Bool} (b : Bool) → a ≡ false → false ≡ a && b
and_no b e = rw e

pub and-go : {a r b : Bool} → a ≡ true → r ≡ b → r ≡ a && b
and-go e q = rw e q

pub or_yes : {a : Bool} (b : Bool) → a ≡ true → true ≡ a || b
or_yes b e = rw e

pub or-go : {a r b : Bool} → a ≡ false → r ≡ b → r ≡ a || b
or-go e q = rw e q

-- a call's result, its promise, and what the code's test showed of it
pub told {ℓ} : {A : Type ℓ} {r a t : A} → r ≡ a → r ≡ t → a ≡ t
told p q = sym p ∙ q

pub ruleset tests = (rules, lt-ltb, le-ltb, le-leb, lt-leb, eq-eqb, ne_eqb)

pub ruleset cascade = (and_no, and-go, or_yes, or-go, not-true, not-false, told, tests)
