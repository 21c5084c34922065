-- `programme_read` meets its promise: in each arm the reading is the one that `programme::read` promises.
use mathlib.Core.Path.{sym}
use lib.Seq.{sets-eq}
use Rattle.programme.specs.Answer.{programme_numbers}
use Rattle.programme_answers.proofs.Laws.{read_refused, read_short, read-put}
use Rattle.programme_answers.proofs.programme_read.Goals as goal

pub returns-then-fields-lt-FIELDS : goal.returns-then-fields-lt-FIELDS
returns-then-fields-lt-FIELDS c = read_short _ _ _ (sym c.in-Ok.ensures) c.if-fields-lt-FIELDS.true

pub returns-in-Err : goal.returns-in-Err
returns-in-Err c = read_refused _ _ c.from.ensures (sym c.in-Err.ensures)

pub returns-else-fields-lt-FIELDS : goal.returns-else-fields-lt-FIELDS
returns-else-fields-lt-FIELDS c = let p = c.in-Ok.p in
    let f = c.args.fields.now in
    read-put _ _ _ (sym c.in-Ok.ensures) c.if-fields-lt-FIELDS.false
    (rw (c.from-in-Ok.ensures, c.from-in-Ok-2.ensures, c.from-in-Ok-3.ensures) (sets-eq (programme_numbers p) f 0 c.if-fields-lt-FIELDS.false))
