-- `shelf_check::unless_spoiled` meets its promise: 18, or the number.
use mathlib.Core.Path.{sym, ◌∙◌}
use Rattle.shelf.proofs.Numbers.{no_record_lem}
use Rattle.shelf_check.proofs.Unless.{spoiled, unspoiled, record-so}
use Rattle.shelf_check.proofs.unless_spoiled.Goals as goal

pub returns-in_default : goal.returns-in_default
returns-in_default c = spoiled _ (no_record_lem _ (rw c.in_default.is at c.try_from.ensures.1))

pub returns-then-is_bad : goal.returns-then-is_bad
returns-then-is_bad c = spoiled _ (sym (record-so c.in-Ok.ensures.1 c.is_bad.ensures) ∙ c.if-is_bad.true)

pub returns-else-is_bad : goal.returns-else-is_bad
returns-else-is_bad c = unspoiled _ (sym (record-so c.in-Ok.ensures.1 c.is_bad.ensures) ∙ c.if-is_bad.false)
