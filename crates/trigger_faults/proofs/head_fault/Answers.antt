-- `trigger_faults::head_fault` meets its contract: at each return the tests that led there decide the row. Assumes nothing.
use mathlib.Core.Path.{◌≡◌}
use Rattle.base.specs.Bytes.{word}
use borrow.Author.Rules.{rules}
use Rattle.base.proofs.Tests.{tests}
use Rattle.trigger_faults.specs.Parts.{head_fault}
use Rattle.trigger_faults.proofs.head_fault.Goals as goal

pub returns-then-size-gt-LARGEST : goal.returns-then-size-gt-LARGEST
unfolding head_fault
returns-then-size-gt-LARGEST c = search tests

pub returns-then-size-lt1 : goal.returns-then-size-lt1
unfolding head_fault
returns-then-size-lt1 c = search tests

pub returns-then-payload-ne-TRIGGER_EVENT : goal.returns-then-payload-ne-TRIGGER_EVENT
unfolding head_fault
returns-then-payload-ne-TRIGGER_EVENT c = search tests

pub returns-then-size-lt-NAME_AT : goal.returns-then-size-lt-NAME_AT
unfolding head_fault
returns-then-size-lt-NAME_AT c = search tests

pub returns-then-length-eq1 : goal.returns-then-length-eq1
unfolding head_fault
returns-then-length-eq1 c = let given : c.from-length.result ≡ word c.args.payload.now 1 = search rules in
    rw (← given) (search tests)

pub returns-then-size-length : goal.returns-then-size-length
unfolding head_fault
returns-then-size-length c = let given : c.from-length.result ≡ word c.args.payload.now 1 = search rules in
    rw (← given) (search tests)

pub returns : goal.returns
unfolding head_fault
returns c = let given : c.from-length.result ≡ word c.args.payload.now 1 = search rules in
    rw (← given) (search tests)
