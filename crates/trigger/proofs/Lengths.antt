-- Laws on target lengths: a module has 6 bytes and a tap 2, where there are any.
use mathlib.Core.Path.{◌≡◌}
use mathlib.Core.Bool.{false}
use Prim.Native.Nat.{ℕ}
use lib.Dec.{eqb}
use borrow.Author.Tests.{eqb-true, ne_eqb}
use Rattle.base.proofs.Cases.{by, unlike}
use Rattle.trigger_faults.specs.Fields.{wrong_length}

module _ (type n : ℕ) (some : n ≡ 0 → ⊥) (allowed : wrong_length type n ≡ false) where
  pub no_none : type ≡ 0 → ⊥
  unfolding wrong_length
  no_none e = unlike (rw (e, ne_eqb n 0 some) at allowed)

  pub module-six : type ≡ 1 → n ≡ 6
  unfolding wrong_length
  module-six e = by (eqb n 6) (λ t. eqb-true _ _ t) (λ f. absurd (unlike (rw (e, ne_eqb n 0 some, f) at allowed)))

  pub tap-two : type ≡ 2 → n ≡ 2
  unfolding wrong_length
  tap-two e = by (eqb n 2) (λ t. eqb-true _ _ t) (λ f. absurd (unlike (rw (e, ne_eqb n 0 some, f) at allowed)))
