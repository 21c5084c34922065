-- `file_table::table_code` meets its promise: case by case.
use mathlib.Core.Path.{sym, ap, ◌∙◌}
use Rattle.answers.specs.Answers.{out}
use Rattle.file_table.proofs.Laws.{lent-refused, lent-table}
use Rattle.file_table.proofs.table_code.Goals as goal

pub returns-in-Err : goal.returns-in-Err
returns-in-Err c =
    ap (λ n. out n c.args.fields.now) c.from.ensures ∙ lent-refused _ _ _ (sym c.read_file.ensures ∙ c.in-Err.is)

pub returns-in-Ok : goal.returns-in-Ok
returns-in-Ok c = lent-table _ _ _ (sym c.read_file.ensures ∙ c.in-Ok.is) (ap (λ n. out n c.put_table.new.fields) c.done.ensures ∙ c.put_table.ensures ∙ rw (c.from-in-Ok.ensures, c.from-in-Ok-2.ensures))
