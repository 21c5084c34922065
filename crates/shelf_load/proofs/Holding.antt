-- Saying in the numbers which sections of a place are held.
--   held_none, held_one, held-skipped, held-end      the numbers, turn by turn
--   below_length                                     they stay as many
use mathlib.Core.Path.{◌≡◌, refl, sym, ap, ◌∙◌}
use mathlib.Core.List.{List}
use Prim.Native.Nat.{ℕ, zero, suc, ◌+◌, ◌<◌}
use native.Mathlib.Numerals.{add-one}
use lib.Dec.{eqb}
use lib.ListN.{length, get_or}
use borrow.Author.Tests.{eq-eqb, ne_eqb}
use Rattle.base.proofs.Cases.{by}
use Rattle.shelf_write.specs.Calls.{held_put}
use Rattle.shelf_write.proofs.Writes.{held-length}
use Rattle.shelf_write.proofs.Lent.{held-put}
use Rattle.shelf_load.specs.On.{held_below}

module _ (old : List ℕ) (p : ℕ) (lengths : List ℕ) where
  pub below_length : (k : ℕ) → length (held_below k old p lengths) ≡ length old
  unfolding held_below
  below_length zero = refl
  below_length (suc k) =
      by (eqb (get_or lengths k 0) 0)
      (λ t. rw t (below_length k))
      (λ t. rw t (held-length (held_below k old p lengths) p k (get_or lengths k 0) ∙ below_length k))

  pub held_none : old ≡ held_below 0 old p lengths
  unfolding held_below
  held_none = refl

  module _ (words : List ℕ) (k : ℕ) (e : words ≡ held_below k old p lengths) where
    pub held-skipped : {size : ℕ} → size ≡ get_or lengths k 0 → size ≡ 0 → words ≡ held_below (k + 1) old p lengths
    unfolding held_below
    held-skipped s z = e ∙ rw (add-one, eq-eqb (get_or lengths k 0) 0 (sym s ∙ z))

    pub held_one :
        {size : ℕ}
        → length words ≡ 96
        → p < 4
        → k < 16
        → size ≡ get_or lengths k 0
        → (size ≡ 0 → ⊥)
        → held_put words p k size ≡ held_below (k + 1) old p lengths
    unfolding held_below
    held_one n hp hk s d =
        held-put words n p hp k hk _
        ∙ rw (add-one, ne_eqb (get_or lengths k 0) 0 (λ z. d (s ∙ z)), ← e, s)

    pub held-end : k ≡ 16 → words ≡ held_below 16 old p lengths
    held-end q = e ∙ ap (λ j. held_below j old p lengths) q
