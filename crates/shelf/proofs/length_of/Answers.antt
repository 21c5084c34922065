-- `shelf::length_of` meets its promise: each `return` is a case of the definition.
use Rattle.base.proofs.Tests.{tests}
use Rattle.shelf.specs.Calls.{length_among}
use borrow.Author.Rules.{rules}
use Rattle.shelf.proofs.length_of.Goals as goal

pub returns-then-words-ne-WORDS : goal.returns-then-words-ne-WORDS
unfolding length_among
returns-then-words-ne-WORDS c = search (tests, rules)

pub returns-then-p-ge-PLACES : goal.returns-then-p-ge-PLACES
unfolding length_among
returns-then-p-ge-PLACES c = search (tests, rules)

pub returns-then-n-ge-SECTIONS : goal.returns-then-n-ge-SECTIONS
unfolding length_among
returns-then-n-ge-SECTIONS c = search (tests, rules)

pub returns : goal.returns
unfolding length_among
returns c = search (tests, rules)
