-- Tables of refusals whose rows have one number.
--   one_number     where a row holds, that number is given
--   no_row         where none does, what follows
use mathlib.Core.Path.{◌≡◌, refl, sym}
use mathlib.Core.Bool.{Bool, true, false, ◌||◌}
use mathlib.Core.List.{List, [], ◌∷◌}
use Rattle.refusal.specs.declared.Refusal.{Refusal}
use Rattle.base.specs.Choice.{Row, first}
use Rattle.base.specs.Tables.{Each}
use Rattle.base.proofs.Cases.{by, unlike, or_left, or_right}

-- some row holds
abbrev pub held : List Row → Bool
held [] = false
held (r ∷ rs) = r.when || held rs

pub either_way : (a b : Bool) → b ≡ true → a || b ≡ true
either_way true b e = refl
either_way false b e = e

module _ {A : Type 0} (refused : Refusal → A) (m : Refusal) (other : A) where
  pub one_number : (rs : List Row) → Each (λ n. n ≡ m) rs → held rs ≡ true → refused m ≡ first refused rs other
  one_number [] e h = absurd (unlike (sym h))
  one_number (r ∷ rs) e h =
      by r.when
      (λ t. rw (t, e.0))
      (λ f. let g : held rs ≡ true = rw f at h in rw f (one_number rs e.1 g))

  pub no_row : (rs : List Row) → held rs ≡ false → other ≡ first refused rs other
  no_row [] h = refl
  no_row (r ∷ rs) h = rw (or_left r.when (held rs) h) (no_row rs (or_right r.when (held rs) h))
