-- `shelf_ask::table_code` meets its promise: case by case.
use native.Mathlib.Omega.{arith}
use mathlib.Core.Path.{sym, ap, ◌∙◌}
use Prim.Native.Nat.{◌+◌, ◌*◌}
use lib.ListN.{length}
use Rattle.base.proofs.Tests.{told}
use Rattle.answers.specs.Answers.{out}
use Rattle.shelf.specs.Layout.{shelf_at}
use Rattle.shelf_ask.specs.Tables.{taken_of}
use Rattle.shelf_ask.proofs.Tables.{lent-refused, lent-table}
use Rattle.shelf_ask.proofs.table_code.Goals as goal

pub returns-in-Err : goal.returns-in-Err
returns-in-Err c =
    let a = c.args in
    ap (λ n. out n a.fields.now) c.from-in-Err.ensures
    ∙ lent-refused _ _ _ _ _ (ap (taken_of (shelf_at a.words.now) (length a.store.now)) (sym c.from.ensures) ∙ told c.taken_in.ensures c.in-Err.is)

pub returns-in-Ok : goal.returns-in-Ok
returns-in-Ok c =
    let a = c.args in
    lent-table _ _ _ _ _
    (ap (taken_of (shelf_at a.words.now) (length a.store.now)) (sym c.from.ensures) ∙ told c.taken_in.ensures c.in-Ok.is)
    (omega (arith, c.type_inv.words (64 + 4 * a.place)))
    c.table_in-table.ensures
    (ap (λ n. out n c.put_table.new.fields) c.done.ensures ∙ c.put_table.ensures)
