-- `trigger_faults::user_fault` meets its contract: at each return the tests that led there decide the row. Assumes nothing.
use mathlib.Core.Path.{◌≡◌}
use Rattle.base.specs.Bytes.{word}
use borrow.Author.Rules.{rules}
use Rattle.base.proofs.Tests.{tests}
use Rattle.trigger_faults.specs.Parts.{user_fault}
use Rattle.trigger_faults.proofs.user_fault.Goals as goal

pub returns-then-size-at : goal.returns-then-size-at
unfolding user_fault
returns-then-size-at c = search tests

pub returns-then-size-end : goal.returns-then-size-end
unfolding user_fault
returns-then-size-end c = let given : c.from-length.result ≡ word c.args.payload.now c.args.at = search rules in
    rw (← given) (search tests)

pub returns-then-end-size : goal.returns-then-end-size
unfolding user_fault
returns-then-end-size c = let given : c.from-length.result ≡ word c.args.payload.now c.args.at = search rules in
    rw (← given) (search tests)

pub returns : goal.returns
unfolding user_fault
returns c = let given : c.from-length.result ≡ word c.args.payload.now c.args.at = search rules in
    rw (← given) (search tests)
