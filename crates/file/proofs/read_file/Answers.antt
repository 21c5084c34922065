-- `file::read_file` meets its promise: each way is a law of `Front`.
use borrow.Author.Rules.{rules}
use mathlib.Core.Path.{sym, ◌∙◌}
use Rattle.refusal.proofs.Numbers.{handed_on}
use Rattle.file.proofs.Front.{no-form, other-form, formed}
use Rattle.file.proofs.read_file.Goals as goal

pub returns-in_err-form : goal.returns-in_err-form
returns-in_err-form c = handed_on c.from_residual.result c.from_residual.ensures.1 ∙ no-form _ _ (sym (search rules))

pub returns-then-form-ne-FORM : goal.returns-then-form-ne-FORM
returns-then-form-ne-FORM c = other-form _ c.in_ok-form.form (sym (search rules)) c.if-form-ne-FORM.true

pub returns : goal.returns
returns c = c.read_count.ensures ∙ formed _ c.in_ok-form.form (sym (search rules)) c.if-form-ne-FORM.false
