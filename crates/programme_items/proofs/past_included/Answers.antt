-- `programme_items::past_included` meets its contract by each of its three ways.
use native.Mathlib.Omega.{arith}
use Rattle.programme_items.proofs.Included.{stops, finishes, none-included, all-included}
use Rattle.programme_items.proofs.past_included.Goals as goal

pub returns-then-there-eq0 : goal.returns-then-there-eq0
returns-then-there-eq0 c = let a = c.args in
    let n = none-included a.flags c.if-there-eq0.true in
    finishes a.size a.from a.flags _ (omega (arith, n)) c.requires.0

pub returns-then-size-end : goal.returns-then-size-end
returns-then-size-end c = let a = c.args in
    let n = all-included a.flags c.if-there-eq15.true in
    stops a.size a.from a.flags (omega (arith, n, c.if-size-end.true))

pub returns-then-there-eq15 : goal.returns-then-there-eq15
returns-then-there-eq15 c = let a = c.args in
    let n = all-included a.flags c.if-there-eq15.true in
    finishes a.size a.from a.flags _ (omega (arith, n)) c.if-size-end.false

pub returns-then-size-end-2 : goal.returns-then-size-end-2
returns-then-size-end-2 c = stops c.args.size c.args.from c.args.flags (omega (arith, c.bytes_included.ensures.0, c.if-size-end-2.true))

pub returns : goal.returns
returns c = finishes c.args.size c.args.from c.args.flags _ (omega (arith, c.bytes_included.ensures.0)) c.if-size-end-2.false
