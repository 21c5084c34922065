-- `shelf_save::save_table` meets its promise.
use borrow.Author.Rules.{rules}
use mathlib.Core.Path.{◌≡◌, sym, ap, subst, ◌∙◌}
use lib.ListN.{length}
use Rattle.std.specs.Prelude.{Ok}
use Rattle.refusal.proofs.Numbers.{handed_on}
use Rattle.shelf.specs.Layout.{shelf_at}
use Rattle.shelf_ask.specs.Ask.{holding_of}
use Rattle.shelf_ask.proofs.Numbers.{lengths_read}
use Rattle.shelf_save.specs.Save.{save}
use Rattle.shelf_save.specs.Sizes.{Berthed}
use Rattle.shelf_save.proofs.Saving.{held-stands, save-refused, save-by}
use Rattle.shelf_save.proofs.save_table.Goals as goal

pub returns-in_err-p : goal.returns-in_err-p
returns-in_err-p c =
    ap (λ r. save r c.args.out.now) (handed_on c.from_residual.result c.from_residual.ensures.1)
    ∙ save-refused _ _ _ _ _ (search rules)

pub save_place-requires-clause-p_lt_places : goal.save_place-requires-clause-p_lt_places
save_place-requires-clause-p_lt_places c =
    let a = c.args in
    let e : holding_of (shelf_at a.words.now) (length a.store.now) a.key ≡ Ok c.in_ok-p.p = search rules in
    let r = held-stands _ a.store.now a.key _ e in
    (r.place, r.whole)

pub save_place-requires-clause-berthed : goal.save_place-requires-clause-berthed
save_place-requires-clause-berthed c =
    let a = c.args in
    let e : holding_of (shelf_at a.words.now) (length a.store.now) a.key ≡ Ok c.in_ok-p.p = search rules in
    let r = held-stands _ a.store.now a.key _ e in
    subst Berthed (sym (lengths_read _ _ _ _ e c.lengths_of.ensures)) r.berthed

pub returns : goal.returns
returns c =
    let a = c.args in
    let e : holding_of (shelf_at a.words.now) (length a.store.now) a.key ≡ Ok c.in_ok-p.p = search rules in
    save-by _ _ _ _ _ e (lengths_read _ _ _ _ e c.lengths_of.ensures) c.save_place.ensures
