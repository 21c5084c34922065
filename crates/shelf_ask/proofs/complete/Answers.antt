-- `shelf_ask::complete` meets its promise: a table is complete exactly when it has no missing number.
use borrow.Author.Rules.{rules}
use mathlib.Core.Path.{◌≡◌, ap, ◌∙◌}
use Rattle.std.specs.Prelude.{Ok}
use Rattle.refusal.proofs.Numbers.{handed_on}
use Rattle.shelf.specs.Layout.{shelf_at}
use Rattle.shelf_ask.specs.Ask.{missing_of}
use Rattle.shelf_ask.proofs.Held.{none_is, whole-of-missing, whole-of-refused}
use Rattle.shelf_ask.proofs.complete.Goals as goal

pub returns-in_err-missing : goal.returns-in_err-missing
returns-in_err-missing c = handed_on c.from_residual.result c.from_residual.ensures.1 ∙ whole-of-refused _ _ _ (search rules)

pub returns : goal.returns
returns c =
    let a = c.args in
    let e : Ok c.in_ok-missing.missing ≡ missing_of (shelf_at a.words.now) a.store.now a.key = search rules in
    ap Ok (none_is c.in_ok-missing.missing c.is_none.result c.is_none.ensures) ∙ whole-of-missing _ _ _ e
