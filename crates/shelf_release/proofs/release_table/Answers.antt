-- `shelf_release::release_table` meets its promise.
use borrow.Author.Rules.{rules}
use mathlib.Core.Path.{◌≡◌, ap, ◌∙◌}
use lib.ListN.{length}
use Rattle.std.specs.Prelude.{Ok}
use Rattle.refusal.proofs.Numbers.{handed_on}
use Rattle.shelf.specs.Layout.{shelf_at}
use Rattle.shelf_ask.specs.Ask.{holding_of}
use Rattle.shelf_release.specs.On.{leaving}
use Rattle.shelf_release.proofs.On.{lent-refused, lent-done}
use Rattle.shelf_release.proofs.release_table.Goals as goal

pub returns-in_err-p : goal.returns-in_err-p
returns-in_err-p c =
    ap (λ r. leaving r c.args.words.now c.args.store.now) (handed_on c.from_residual.result c.from_residual.ensures.1)
    ∙ lent-refused _ _ _ _ (search rules)

pub returns : goal.returns
returns c =
    let a = c.args in
    let e : holding_of (shelf_at a.words.now) (length a.store.now) a.key ≡ Ok c.in_ok-p.p = search rules in
    lent-done _ _ _ _ e c.wipe_all.ensures c.put_free.ensures
