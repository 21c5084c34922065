-- `text::next_place` meets its promise: no place lies behind the highest.
use native.Mathlib.Omega.{arith}
use lib.Dec.{ltb}
use borrow.Author.Tests.{ltb-true, ltb-false}
use Prim.Native.Nat.{◌-◌, ◌^◌}
use Rattle.base.proofs.Cases.{by}
use Rattle.text.specs.Over.{next_place}
use Rattle.text.proofs.next_place.Goals as goal

pub returns : goal.returns
unfolding next_place
returns c =
    by (ltb c.args.at (2 ^ 64 - 1))
    (λ t. rw t (omega (arith, c.saturating_add.ensures, ltb-true _ _ t)))
    (λ f. rw f (omega (arith, c.saturating_add.ensures, ltb-false _ _ f, c.ranges.at)))
