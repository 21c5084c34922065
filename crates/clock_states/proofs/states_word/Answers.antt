-- `states_word` puts one digit more below the others.
use mathlib.Core.Path.{◌≡◌, sym, ap, ◌∙◌}
use Prim.Native.Nat.{suc, ◌-◌}
use native.Mathlib.Omega.{arith}
use borrow.Author.Rules.{rules}
use lib.ListN.{length, drop, length-drop, drop_of_length-le}
use lib.Seq.{drop-cons}
use Rattle.clock_rule.specs.declared.State.{State}
use Rattle.clock_rule.proofs.Lists.{length-mapped}
use Rattle.clock_states.proofs.States.{word_in, word-said, states-small}
use Rattle.clock_states.proofs.states_word.Goals as goal

pub loop-i-init : goal.loop-i-init
unfolding word_in
loop-i-init c =
    let long : length c.args.apps ≡ 8 = search (rules, length-mapped) in
    sym (ap word_in (drop_of_length-le c.args.apps {i = 8} (omega arith)))

pub overflow_mul-word : goal.overflow_mul-word
overflow_mul-word c = let o = c.loop-i in
    let long : length c.args.apps ≡ 8 = search (rules, length-mapped) in
    let s = states-small 8 (drop o.i c.args.apps) (rw length-drop (omega arith)) in omega (arith, o.invariant)

pub overflow_add-word : goal.overflow_add-word
overflow_add-word c = let o = c.loop-i in
    let long : length c.args.apps ≡ 8 = search (rules, length-mapped) in
    let s = states-small 8 (drop o.i c.args.apps) (rw length-drop (omega arith)) in omega (arith, o.invariant, c.from.ensures.1)

pub loop-i-preserved : goal.loop-i-preserved
unfolding word_in
loop-i-preserved c = let o = c.loop-i in
    let long : length c.args.apps ≡ 8 = search (rules, length-mapped) in
    let d = drop-cons c.args.apps (o.i - 1) (record { state = State.Released }) (omega (arith, o.auto.i)) in
    let e : suc (o.i - 1) ≡ o.i = omega arith in
    let f = rw e at d in
    rw (f, o.invariant, c.from.ensures.0) (omega arith)

pub returns : goal.returns
unfolding word_in
returns c = let o = c.loop-i in
    let long : length c.args.apps ≡ 8 = search (rules, length-mapped) in
    let e : o.i ≡ 0 = omega (arith, o.auto.i, c.loop-i-test.false) in
    rw e at o.invariant ∙ sym (word-said c.args.apps long)
