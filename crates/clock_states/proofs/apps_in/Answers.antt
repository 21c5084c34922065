-- `apps_in` takes one digit more at a time.
use Rattle.std.proofs.Common.{◌<◌, ◌≢◌, length, arith, get_or-set_other, get_or-set_same, below_more}
use mathlib.Core.Path.{refl, sym, ◌∙◌}
use native.Mathlib.Numerals.{add-one}
use lib.ListN.{length-set}
use lib.Seq.{ext_get_or}
use Rattle.std.proofs.Math.Nat.{div-div-eq-div-mul, pow-suc}
use Rattle.clock_rule.specs.declared.State.{State}
use Rattle.clock_states.specs.States.{app_at, apps_in}
use Rattle.clock_states.proofs.UpTo.{up-length, up_at}
use Rattle.clock_states.proofs.apps_in.Goals as goal

pub loop-app-init : goal.loop-app-init
loop-app-init c = (refl, λ k h. absurd (omega arith), omega arith)

pub loop-app-preserved : goal.loop-app-preserved
loop-app-preserved c = let o = c.loop-app in (
  simp length-set o.invariant.0,
  below_more _ _
      (λ k h. let ne : k ≢ o.app-index = omega arith in rw get_or-set_other (o.invariant.1 k h))
      (let lt : o.app-index < length o.app-items = omega (arith, o.invariant.0) in rw get_or-set_same (rw (c.state_of.ensures, o.invariant.2))),
  rw (o.invariant.2, add-one, pow-suc) (div-div-eq-div-mul c.args.word _ 4),
)

pub returns : goal.returns
unfolding apps_in
returns c = let o = c.loop-app in
    ext_get_or (record { state = State.Released }) _ _ (c.loop-app-test.array_long ∙ sym (up-length 8 (app_at c.args.word)))
    (λ i h.
    let few : i < 8 = omega (arith, c.loop-app-test.array_long) in
    o.invariant.1 i (omega (arith, c.loop-app-test.false)) ∙ sym (up_at 8 (app_at c.args.word) i (record { state = State.Released }) few))
