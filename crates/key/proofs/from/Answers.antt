-- `key::from` meets its promise: the test is the definition's.
use Rattle.base.proofs.Tests.{tests}
use Rattle.key.specs.Key.{key_from}
use Rattle.key.proofs.from.Goals as goal

pub returns-then-table-ne-NRT_IT : goal.returns-then-table-ne-NRT_IT
unfolding key_from
returns-then-table-ne-NRT_IT c = search tests

pub returns : goal.returns
unfolding key_from
returns c = search tests
