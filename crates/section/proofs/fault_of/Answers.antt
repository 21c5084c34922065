-- `section::fault_of` meets its promise: at each `return` the tests that led there say which row of the table holds. A byte fits a
-- wider number, since the rule for the slice gives each element its bound.
use Rattle.base.proofs.Tests.{tests}
use Rattle.section.specs.Section.{fault_of}
use Rattle.section.proofs.fault_of.Goals as goal

pub returns-then-payload-lt-HEADER : goal.returns-then-payload-lt-HEADER
unfolding fault_of
returns-then-payload-lt-HEADER c = search tests

pub returns-then-payload-eq1 : goal.returns-then-payload-eq1
unfolding fault_of
returns-then-payload-eq1 c = search tests

pub returns-then-payload-eq0 : goal.returns-then-payload-eq0
unfolding fault_of
returns-then-payload-eq0 c = search tests

pub returns-then-counted-lt-SHORTEST : goal.returns-then-counted-lt-SHORTEST
unfolding fault_of
returns-then-counted-lt-SHORTEST c = search tests

pub returns-then-counted-gt-LONGEST : goal.returns-then-counted-gt-LONGEST
unfolding fault_of
returns-then-counted-gt-LONGEST c = search tests

pub returns-then-payload-size : goal.returns-then-payload-size
unfolding fault_of
returns-then-payload-size c = search tests

pub returns-then-size-payload : goal.returns-then-size-payload
unfolding fault_of
returns-then-size-payload c = search tests

pub returns-then-last-number : goal.returns-then-last-number
unfolding fault_of
returns-then-last-number c = search tests

pub returns-then-last-gt-HIGHEST_LAST : goal.returns-then-last-gt-HIGHEST_LAST
unfolding fault_of
returns-then-last-gt-HIGHEST_LAST c = search tests

pub returns-then-payload-eq0-2 : goal.returns-then-payload-eq0-2
unfolding fault_of
returns-then-payload-eq0-2 c = search tests

pub returns-then-payload : goal.returns-then-payload
unfolding fault_of
returns-then-payload c = search (tests, c.if-payload.true)

pub returns : goal.returns
unfolding fault_of
returns c = search (tests, c.if-payload.false)
