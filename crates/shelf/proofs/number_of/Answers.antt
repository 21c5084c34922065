-- `shelf::number_of` meets its promise: each `return` is a case of the definition.
use borrow.Author.Rules.{rules}
use Rattle.base.proofs.Tests.{tests}
use Rattle.shelf.specs.Calls.{number_among}
use Rattle.shelf.proofs.number_of.Goals as goal

pub returns-then-words-ne-WORDS : goal.returns-then-words-ne-WORDS
unfolding number_among
returns-then-words-ne-WORDS c = search (tests, rules)

pub returns-then-p-ge-PLACES : goal.returns-then-p-ge-PLACES
unfolding number_among
returns-then-p-ge-PLACES c = search (tests, rules)

pub returns : goal.returns
unfolding number_among
returns c = search (tests, rules)
