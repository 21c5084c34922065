-- `shelf_write::put_fresh` meets its promise: number by number.
use borrow.Author.Rules.{rules}
use Rattle.base.proofs.Tests.{tests}
use native.Mathlib.Omega.{arith}
use borrow.Author.Tests.{eq-eqb}
use Rattle.shelf_write.specs.Writes.{fresh_number, fresh_words}
use Rattle.shelf_write.specs.Calls.{fresh_put}
use Rattle.shelf.proofs.Lists.{filled-all}
use Rattle.shelf_write.proofs.put_fresh.Goals as goal

pub returns-then-words-ne-WORDS : goal.returns-then-words-ne-WORDS
unfolding fresh_put
returns-then-words-ne-WORDS c = search (tests, rules)

pub returns : goal.returns
unfolding fresh_put fresh_words
returns c = let k = c.loop-i in
    rw (eq-eqb _ 96 k.invariant.1) (filled-all _ 96 _ fresh_number (omega arith) k.invariant.0 k.invariant.2)
