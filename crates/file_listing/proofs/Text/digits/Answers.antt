-- `Text::digits` meets its promise: digit by digit, and the last one.
use native.Mathlib.Omega.{arith}
use mathlib.Core.Path.{◌≡◌, ap, ◌∙◌}
use Prim.Native.Nat.{◌+◌, ◌-◌, ◌/◌}
use Rattle.file_listing.proofs.Digits.{next, all, ten-less, ten-up}
use Rattle.file_listing.proofs.Text.digits.Goals as goal

pub place-requires-clause-power_nonzero : goal.place-requires-clause-power_nonzero
place-requires-clause-power_nonzero c = rw c.loop-i.invariant.0 (ten-up _)

pub loop-i-preserved : goal.loop-i-preserved
loop-i-preserved c =
    let k : c.args.powers - (c.loop-i.i + 1) ≡ c.args.powers - c.loop-i.i - 1 = omega arith in (
      rw k (ap (λ p. p / 10) c.loop-i.invariant.0 ∙ ten-less (c.args.powers - c.loop-i.i) (omega arith)),
      next c.args.powers c.args.n c.loop-i.i c.loop-i.power (omega arith) c.loop-i.invariant.0 c.loop-i.invariant.1 c.place.ensures,
    )

pub returns : goal.returns
returns c =
    let e : c.loop-i.i ≡ c.args.powers = omega arith in
    all c.args.powers c.args.n (rw e at c.loop-i.invariant.1) c.byte.ensures
