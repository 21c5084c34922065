-- `section::read` meets its promise: the first number that applies refuses, and else the bytes that are read are there.
use borrow.Author.Rules.{rules}
use mathlib.Core.Path.{◌∙◌}
use native.Mathlib.Omega.{arith}
use Rattle.refusal.proofs.Numbers.{handed_on}
use Rattle.section.proofs.Keys.{key-built}
use Rattle.section.proofs.Faults.{read_refused, read_none, holds-header, holds_key, read-built}
use Rattle.section.proofs.read.Goals as goal

pub returns-in_err-fault_of : goal.returns-in_err-fault_of
returns-in_err-fault_of c = handed_on c.from_residual.result c.from_residual.ensures.1 ∙ read_refused c.args.payload.now (search rules)

pub bounds-payload-0 : goal.bounds-payload-0
bounds-payload-0 c = omega (arith, holds-header c.args.payload.now (search rules))

pub word_at-extension-requires : goal.word_at-extension-requires
word_at-extension-requires c = omega (arith, holds-header c.args.payload.now (search rules))

pub service_in-service-requires : goal.service_in-service-requires
service_in-service-requires c = (holds-header c.args.payload.now (search rules), holds_key c.args.payload.now (search rules))

pub start_in-start-requires : goal.start_in-start-requires
start_in-start-requires c = (holds-header c.args.payload.now (search rules), holds_key c.args.payload.now (search rules))

pub bounds-payload-5 : goal.bounds-payload-5
bounds-payload-5 c = omega (arith, holds-header c.args.payload.now (search rules))

pub bounds-payload-6 : goal.bounds-payload-6
bounds-payload-6 c = omega (arith, holds-header c.args.payload.now (search rules))

pub bounds-payload-7 : goal.bounds-payload-7
bounds-payload-7 c = omega (arith, holds-header c.args.payload.now (search rules))

pub overflow_sub-length : goal.overflow_sub-length
overflow_sub-length c = omega (arith, holds-header c.args.payload.now (search rules))

pub returns : goal.returns
returns c = read-built _ (read_none c.args.payload.now (search rules))
    (key-built c.args.payload.now c.word_at-extension.ensures c.service_in-service.ensures c.start_in-start.ensures)
