-- `record_in` copies 67 words.
use Rattle.clock_answers.proofs.Calls.{as-record, not-record}
use Rattle.clock_answers.proofs.record_in.Goals as goal

pub returns-in-Ok : goal.returns-in-Ok
returns-in-Ok c = let e = c.in-Ok.ensures in as-record c.args.words.now c.in-Ok.words e.1.long e.1.same

pub returns-in-Err : goal.returns-in-Err
returns-in-Err c = let e = c.in-Err.ensures in not-record c.args.words.now e.1
