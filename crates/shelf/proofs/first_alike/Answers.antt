-- `shelf::first_alike` meets its promise: the search for the lowest head with the number.
use borrow.Author.Rules.{rules}
use mathlib.Core.Path.{sym}
use native.Mathlib.Omega.{arith}
use Rattle.base.proofs.Below.{lowest-none, lowest-more, lowest-found}
use Rattle.shelf.proofs.Numbers.{number-told, number-not}
use Rattle.shelf.proofs.first_alike.Goals as goal

pub loop-p-init : goal.loop-p-init
loop-p-init c = lowest-none _

pub returns-then-key_number-number : goal.returns-then-key_number-number
returns-then-key_number-number c = let k = c.loop-p in
    (sym (lowest-found _ 4 k.p (omega arith) k.invariant (number-told _ k.p (search rules) (omega arith) c.key_number.ensures c.if-key_number-number.true)), search rules)

pub loop-p-preserved : goal.loop-p-preserved
loop-p-preserved c = let k = c.loop-p in
    lowest-more _ k.p k.invariant (number-not _ k.p (search rules) (omega arith) c.key_number.ensures c.if-key_number-number.false)
