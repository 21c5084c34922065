-- `text::number` meets its promise: the loop keeps what is left of the digits, and the power that is next.
use mathlib.Core.Path.{◌≡◌, refl}
use native.Mathlib.Omega.{arith}
use borrow.Author.Rules.{rules}
use Prim.Native.Nat.{◌+◌, ◌-◌, ◌<◌}
use Rattle.text.specs.Words.{decimal}
use Rattle.text.proofs.Writing.{all_left, finish}
use Rattle.text.proofs.Digits.{digits_step, digits-end, ten-less, ten-up}
use Rattle.text.proofs.number.Goals as goal

pub loop-i-init : goal.loop-i-init
unfolding decimal
loop-i-init c = (refl, refl, all_left _ _ _)

pub place-end-requires : goal.place-end-requires
place-end-requires c = rw c.loop-i.invariant.0 (ten-up _)

pub loop-i-preserved : goal.loop-i-preserved
loop-i-preserved c =
    let wrote = rw c.loop-i.invariant.0 at c.place-end.ensures in
    let reached : 0 < 12 - c.loop-i.i = omega (arith, c.loop-i-test.true) in
    let fewer : 12 - c.loop-i.i - 1 ≡ 12 - (c.loop-i.i + 1) = omega arith in
    rw (← fewer) (rw c.loop-i.invariant.0 (ten-less _ reached), search rules, digits_step _ _ reached c.loop-i.invariant.2 wrote)

pub returns : goal.returns
returns c =
    let all : 12 - c.loop-i.i ≡ 0 = omega (arith, c.loop-i-test.false) in
    finish (digits-end _ _ all c.loop-i.invariant.2) c.put.ensures
