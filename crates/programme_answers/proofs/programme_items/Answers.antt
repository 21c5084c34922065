-- `programme_items` meets its promise: in each arm the answer is the one that `programme_items::items_at` promises.
use mathlib.Core.Path.{refl, sym, ap, ◌∙◌}
use Rattle.programme_items.specs.Items.{walked}
use Rattle.programme_answers.proofs.Bounds.{handed-within}
use Rattle.programme_answers.proofs.Laws.{lent}
use Rattle.programme_answers.proofs.programme_items.Goals as goal

pub passed_code-requires : goal.passed_code-requires
passed_code-requires c =
    let is = rw c.in-Ok-Some.field-0-is at c.in-Ok-Some.is in
    handed-within _ _ _ _ (ap (λ w. walked w c.items_at.new.fields) (sym is) ∙ c.items_at.ensures)

pub returns-in-Ok-Some : goal.returns-in-Ok-Some
returns-in-Ok-Some c =
    let is = rw c.in-Ok-Some.field-0-is at c.in-Ok-Some.is in
    lent _ _ _ _ (ap (λ w. walked w c.items_at.new.fields) (sym is) ∙ c.items_at.ensures) c.passed_code.ensures

pub returns-in-Ok-None : goal.returns-in-Ok-None
returns-in-Ok-None c =
    let is = rw c.in-Ok-None.field-0-is at c.in-Ok-None.is in
    lent _ _ _ _ (ap (λ w. walked w c.items_at.new.fields) (sym is) ∙ c.items_at.ensures) refl

pub returns-in-Err : goal.returns-in-Err
returns-in-Err c = lent _ _ _ _ (ap (λ w. walked w c.items_at.new.fields) (sym c.in-Err.is) ∙ c.items_at.ensures) (c.from-in-Err.ensures ∙ c.from.ensures)
