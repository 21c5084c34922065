-- `shelf_write::put_head` meets its promise: nothing is written where there is no such place.
use Rattle.base.proofs.Tests.{tests}
use Rattle.shelf_write.specs.Calls.{head_put}
use Rattle.shelf_write.proofs.Writes.{head-put-row}
use borrow.Author.Rules.{rules}
use Rattle.shelf_write.proofs.put_head.Goals as goal

pub returns-then-words-ne-WORDS : goal.returns-then-words-ne-WORDS
unfolding head_put
returns-then-words-ne-WORDS c = search (tests, rules)

pub returns-then-p-ge-PLACES : goal.returns-then-p-ge-PLACES
unfolding head_put
returns-then-p-ge-PLACES c = search (tests, rules)

pub returns : goal.returns
returns c = head-put-row _ _ _ _ _ (search rules) (search rules) (search rules) (search rules) (search rules)
    c.put_row.ensures c.put_rest.ensures
