-- `shelf_write::put_free` meets its promise: nothing is written where there is no such place.
use Rattle.base.proofs.Tests.{tests}
use Rattle.shelf_write.specs.Calls.{freed_put}
use borrow.Author.Rules.{rules}
use Rattle.shelf_write.proofs.put_free.Goals as goal

pub returns-then-words-ne-WORDS : goal.returns-then-words-ne-WORDS
unfolding freed_put
returns-then-words-ne-WORDS c = search (tests, rules)

pub returns-then-p-ge-PLACES : goal.returns-then-p-ge-PLACES
unfolding freed_put
returns-then-p-ge-PLACES c = search (tests, rules)

pub returns : goal.returns
unfolding freed_put
returns c = search (tests, rules)
