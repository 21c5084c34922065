-- `programme::count_items` meets its contract: at each return the tests that led there say which row holds.
use borrow.Author.Rules.{rules}
use mathlib.Core.Path.{ap, ◌∙◌}
use Rattle.refusal.proofs.Numbers.{handed_on}
use Rattle.programme.specs.Count.{count_of}
use Rattle.programme.proofs.Readings.{read_refused, read-other, read_short, read_whole}
use Rattle.programme.proofs.count_items.Goals as goal

pub returns-in_err-header : goal.returns-in_err-header
returns-in_err-header c = handed_on c.from_residual.result c.from_residual.ensures.1
    ∙ ap count_of (read_refused c.args.payload.now _ (search rules))

pub returns-then-header : goal.returns-then-header
returns-then-header c = ap count_of (read-other c.args.payload.now c.in_ok-header.header (search rules) c.if-header.true)

pub returns-then-payload-lt-FIRST_ITEM : goal.returns-then-payload-lt-FIRST_ITEM
returns-then-payload-lt-FIRST_ITEM c = ap count_of (read_short c.args.payload.now c.in_ok-header.header (search rules) c.if-header.false c.if-payload-lt-FIRST_ITEM.true)

pub returns : goal.returns
returns c = ap count_of (read_whole c.args.payload.now c.in_ok-header.header (search rules) c.if-header.false c.if-payload-lt-FIRST_ITEM.false)
