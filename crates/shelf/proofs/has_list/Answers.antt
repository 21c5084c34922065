-- `shelf::has_list` meets its promise: where the numbers of table id and extension differ the table is another, and else the rest of the keys decides.
use borrow.Author.Rules.{rules}
use Prim.Native.Nat.{◌+◌, ◌*◌}
use native.Mathlib.Omega.{arith}
use Rattle.shelf.proofs.Numbers.{number-other, service-other, start-decides}
use Rattle.shelf.proofs.has_list.Goals as goal

pub returns-then-key_number-number : goal.returns-then-key_number-number
returns-then-key_number-number c = let a = c.args in
    let pre = c.requires in
    number-other _ _ (search rules) pre.0 _ (omega (arith, pre.1)) (omega (arith, c.fits-words (64 + 4 * a.p)))
    c.key_number.ensures pre.2 c.if-key_number-number.true

pub returns-then-words-p : goal.returns-then-words-p
returns-then-words-p c = let a = c.args in
    let pre = c.requires in
    service-other _ _ (search rules) pre.0 _ (omega (arith, pre.1)) (omega (arith, c.fits-words (64 + 4 * a.p)))
    c.key_number.ensures pre.2 c.if-key_number-number.false pre.1 c.if-words-p.true

pub returns : goal.returns
returns c = let a = c.args in
    let pre = c.requires in
    let known = c.fits-words in
    start-decides _ _ (search rules) pre.0 _ (omega (arith, pre.1)) (omega (arith, known (64 + 4 * a.p)))
    c.key_number.ensures pre.2 c.if-key_number-number.false pre.1 c.if-words-p.false
    (omega (arith, known (85 + 3 * a.p))) (omega (arith, known (86 + 3 * a.p))) c.exchanged.ensures.1 c.start_of-start.ensures c.exchanged.ensures.0
