-- `programme_items::tell_items` meets its contract: the loop keeps what is left of the items.
use borrow.Author.Rules.{rules}
use native.Mathlib.Omega.{arith}
use mathlib.Core.Path.{◌≡◌, sym, ap, ◌∙◌}
use Prim.Native.Nat.{◌+◌, ◌-◌, ◌*◌}
use Rattle.answers.specs.Answers.{out}
use Rattle.programme_items.proofs.Chains.{goes_on, stops, ends, tells-early, tells-beyond}
use Rattle.programme_items.proofs.tell_items.Goals as goal

pub returns-then-at-lt-FIRST_ITEM : goal.returns-then-at-lt-FIRST_ITEM
returns-then-at-lt-FIRST_ITEM c = tells-early _ _ _ _ c.requires.1 c.if-at-lt-FIRST_ITEM.true

pub returns-then-bytes-at : goal.returns-then-bytes-at
returns-then-bytes-at c = tells-beyond _ _ _ _ c.requires.1 c.if-bytes-at.true

pub returns-in_default : goal.returns-in_default
returns-in_default c = stops _ _ _ _ c.requires.1 c.loop-i.invariant c.in_default.ensures

pub loop-i-preserved : goal.loop-i-preserved
loop-i-preserved c =
    let fewer : c.args.most - c.loop-i.i - 1 ≡ c.args.most - (c.loop-i.i + 1) = omega arith in
    let behind : 10 * c.loop-i.i + 10 ≡ 10 * (c.loop-i.i + 1) = omega arith in
    rw (← fewer, ← behind)
    (goes_on _ _ _ _ c.requires.1 c.loop-i.invariant (search rules) c.in-Some.parts c.in-Some.ensures c.put_item.ensures)

pub returns : goal.returns
returns c =
    let all : c.loop-i.i ≡ c.args.most = search rules in
    ap (λ n. out (10 * n) c.loop-i.fields) (sym all) ∙ ends _ _ _ _ c.requires.1 c.loop-i.invariant (omega arith)
