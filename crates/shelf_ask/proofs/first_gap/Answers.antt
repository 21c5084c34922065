-- `shelf_ask::first_gap` meets its promise: every number passed is held.
use borrow.Author.Rules.{rules}
use mathlib.Core.Path.{◌≡◌, sym, ap, ◌∙◌}
use mathlib.Core.Bool.{not}
use Prim.Native.Nat.{◌+◌}
use Rattle.base.specs.Below.{lowest}
use Rattle.base.specs.Bits.{bit}
use native.Mathlib.Omega.{arith}
use borrow.Author.Tests.{eq-eqb, ne_eqb, lt-ltb, le-ltb}
use Rattle.base.proofs.Below.{lowest-none, lowest-more, lowest-found}
use Rattle.shelf_ask.specs.Calls.{gap_among}
use Rattle.shelf_ask.proofs.Numbers.{odd, zero_one}
use Rattle.shelf_ask.proofs.first_gap.Goals as goal

pub loop-n-init : goal.loop-n-init
loop-n-init c = (search rules, lowest-none _)

pub returns-then-mask-n-eq0 : goal.returns-then-mask-n-eq0
unfolding gap_among
returns-then-mask-n-eq0 c =
    let k = c.loop-n in
    let q = lowest-found _ (c.args.last + 1) k.n c.loop-n-test.true k.invariant.1 (rw (ne_eqb _ 1 (zero_one c.if-mask-n-eq0.true))) in
    rw (q, lt-ltb k.n (c.args.last + 1) c.loop-n-test.true)

pub loop-n-preserved : goal.loop-n-preserved
loop-n-preserved c = let k = c.loop-n in
    (search rules, lowest-more _ k.n k.invariant.1 (rw (eq-eqb _ 1 (odd _ c.if-mask-n-eq0.false))))

pub returns : goal.returns
unfolding gap_among
returns c =
    let k = c.loop-n in
    let end = c.args.last + 1 in
    let e : k.n ≡ end = omega arith in
    let q = ap (λ m. lowest m (λ n. not (bit c.args.mask n))) (sym e) ∙ k.invariant.1 ∙ e in
    rw (q, le-ltb end end (omega arith))
