-- `shelf::free_of` meets its promise: the search for the lowest place that is free.
use borrow.Author.Rules.{rules}
use mathlib.Core.Path.{◌≡◌, sym, ◌∙◌}
use native.Mathlib.Omega.{arith}
use Rattle.base.proofs.Below.{lowest-none, lowest-more, lowest-found}
use Rattle.shelf.proofs.Find.{lowest-at}
use Rattle.shelf.specs.Record.{free_of}
use Rattle.shelf.proofs.Numbers.{free-told, taken-told, among-free, free-none}
use Rattle.shelf.proofs.free_of.Goals as goal

pub returns-then-words-ne-WORDS : goal.returns-then-words-ne-WORDS
returns-then-words-ne-WORDS c = (sym (free-none _ c.if-words-ne-WORDS.true), search rules)

pub loop-free-init : goal.loop-free-init
loop-free-init c = (search rules, lowest-none _)

pub returns-then-words-free-ne1 : goal.returns-then-words-free-ne1
unfolding free_of
returns-then-words-free-ne1 c = let k = c.loop-free in
    (sym (among-free _ k.invariant.0 ∙ lowest-found _ 4 k.free (omega arith) k.invariant.1 (free-told _ k.free (omega arith) c.if-words-free-ne1.true)), search rules)

pub loop-free-preserved : goal.loop-free-preserved
loop-free-preserved c = let k = c.loop-free in
    (k.invariant.0, lowest-more _ k.free k.invariant.1 (taken-told _ k.free (omega arith) c.if-words-free-ne1.false))

pub returns : goal.returns
unfolding free_of
returns c = let k = c.loop-free in
    let e : k.free ≡ 4 = omega arith in
    (sym (among-free _ k.invariant.0 ∙ lowest-at 4 _ e k.invariant.1), search rules)
