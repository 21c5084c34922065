-- `programme::run_from` meets its contract: what is left of the run from here is the run.
use borrow.Author.Rules.{rules}
use native.Mathlib.Omega.{arith}
use mathlib.Core.Path.{◌≡◌, sym, ◌∙◌}
use Rattle.std.specs.Prelude.{◌+◌, ◌-◌, Ok, Err, None}
use Rattle.descriptors.specs.Loop.{step_of}
use Rattle.programme.proofs.Runs.{run_none, run-next, run-over, run-refused}
use Rattle.programme.proofs.run_from.Goals as goal

pub loop-i-init : goal.loop-i-init
loop-i-init c = search rules

pub loop-i-preserved : goal.loop-i-preserved
loop-i-preserved c =
    let e = rw c.in-Ok-Some.field-0-is at c.in-Ok-Some.ensures in
    let left : c.args.count - c.loop-i.i - 1 ≡ c.args.count - (c.loop-i.i + 1) = omega arith in
    (search rules, rw (sym left) (sym (run-next _ _ (c.args.count - c.loop-i.i) (search rules) _ (sym e)) ∙ c.loop-i.invariant.1))

pub returns-in_default : goal.returns-in_default
returns-in_default c =
    let e : Ok None ≡ step_of c.args.bytes.now c.loop-i.at = search rules in
    sym (run-over _ _ (c.args.count - c.loop-i.i) (search rules) (sym e)) ∙ c.loop-i.invariant.1

pub returns-in_default-2 : goal.returns-in_default-2
returns-in_default-2 c =
    let e : Err c.in_default.field-0 ≡ step_of c.args.bytes.now c.loop-i.at = sym c.in_default.is ∙ c.step_at.ensures in
    sym (run-refused _ _ (c.args.count - c.loop-i.i) (search rules) _ (sym e)) ∙ c.loop-i.invariant.1

pub returns : goal.returns
returns c = sym (run_none _ _ (c.args.count - c.loop-i.i) (search rules)) ∙ c.loop-i.invariant.1
