-- Laws on an application id's bytes.
--   compared                two runs of bytes, as the library compares them
--   id-outside, id-inside   whether the bytes at a place are an id, by the tests of the code
use mathlib.Core.Path.{◌≡◌, sym, ap, ◌∙◌}
use lib.Dec.{eqb}
use Rattle.std.specs.Cmp.Lexicographic.{pointwise, same_text, other_text}
use Rattle.base.proofs.Cases.{by}
use Rattle.base.proofs.Same.{same_refl, same-equal}
use mathlib.Core.Bool.{false}
use mathlib.Core.List.{List}
use Prim.Native.Nat.{ℕ, ◌+◌, ◌-◌, ◌<◌, ◌≤◌}
use native.Mathlib.Nat.{add-sub_cancel_left}
use lib.ListN.{length, take, drop}
use borrow.Author.Tests.{le-leb, lt-leb}
use Rattle.base.specs.Bytes.{same}
use Rattle.trigger.specs.Belongs.{is_id}

-- the library's comparison of two runs of bytes
pub compared : (a b : List ℕ) → pointwise eqb a b ≡ same a b
compared a b =
    by (pointwise eqb a b)
    (λ t. t ∙ sym (ap (same a) (sym (same_text a b (sym t))) ∙ same_refl a))
    (λ f. by (same a b) (λ t. absurd (other_text a b (sym f) (same-equal a b t))) (λ t. f ∙ sym t))

module _ (s : List ℕ) (place n : ℕ) (id : List ℕ) where
  pub id-outside : length s < place + n → false ≡ is_id s place n id
  unfolding is_id
  id-outside h = rw (lt-leb _ _ h)

  pub id-inside : place + n ≤ length s → same (take (place + n - place) (drop place s)) id ≡ is_id s place n id
  unfolding is_id
  id-inside h = rw (le-leb _ _ h, add-sub_cancel_left)
