-- `shelf::place_of_list` meets its promise: the search for the lowest place that has the key.
use borrow.Author.Rules.{rules}
use mathlib.Core.Path.{◌≡◌, sym}
use native.Mathlib.Omega.{arith}
use Rattle.base.proofs.Below.{lowest-none, lowest-more, lowest-found}
use Rattle.shelf.specs.Record.{place_of}
use Rattle.shelf.proofs.Find.{lowest-at}
use Rattle.shelf.proofs.Numbers.{key-told}
use Rattle.shelf.proofs.place_of_list.Goals as goal

pub loop-p-init : goal.loop-p-init
loop-p-init c = lowest-none _

pub returns-then-has_list : goal.returns-then-has_list
unfolding place_of
returns-then-has_list c = let k = c.loop-p in
    (sym (lowest-found _ 4 k.p (omega arith) k.invariant (key-told _ k.p _ (omega arith) c.has_list.ensures c.if-has_list.true)), search rules)

pub loop-p-preserved : goal.loop-p-preserved
loop-p-preserved c = let k = c.loop-p in
    lowest-more _ k.p k.invariant (key-told _ k.p _ (omega arith) c.has_list.ensures c.if-has_list.false)

pub returns : goal.returns
unfolding place_of
returns c = let k = c.loop-p in
    let e : k.p ≡ 4 = omega arith in
    (sym (lowest-at 4 _ e k.invariant), search rules)
