-- `shelf_write::put_held` meets its promise: nothing is written where there is no such section.
use Rattle.base.proofs.Tests.{tests}
use Rattle.shelf_write.specs.Calls.{held_put}
use borrow.Author.Rules.{rules}
use Rattle.shelf_write.proofs.put_held.Goals as goal

pub returns-then-words-ne-WORDS : goal.returns-then-words-ne-WORDS
unfolding held_put
returns-then-words-ne-WORDS c = search (tests, rules)

pub returns-then-p-ge-PLACES : goal.returns-then-p-ge-PLACES
unfolding held_put
returns-then-p-ge-PLACES c = search (tests, rules)

pub returns-then-n-ge-SECTIONS : goal.returns-then-n-ge-SECTIONS
unfolding held_put
returns-then-n-ge-SECTIONS c = search (tests, rules)

pub returns : goal.returns
unfolding held_put
returns c = search (tests, rules)
