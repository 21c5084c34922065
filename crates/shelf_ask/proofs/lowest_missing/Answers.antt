-- `shelf_ask::lowest_missing` meets its promise.
use borrow.Author.Rules.{rules}
use mathlib.Core.Path.{◌≡◌, sym, ap, ◌∙◌}
use lib.ListN.{length}
use Rattle.std.specs.Prelude.{Ok}
use Rattle.shelf.specs.Layout.{shelf_at}
use Rattle.refusal.proofs.Numbers.{handed_on}
use Rattle.shelf_ask.specs.Ask.{holding_of}
use Rattle.shelf_ask.proofs.Held.{missing-refused, missing-held}
use Rattle.shelf_ask.proofs.Numbers.{last-low, gap-read}
use Rattle.shelf_ask.proofs.lowest_missing.Goals as goal

pub returns-in_err-p : goal.returns-in_err-p
returns-in_err-p c = handed_on c.from_residual.result c.from_residual.ensures.1 ∙ sym (missing-refused _ _ _ _ (search rules))

pub first_gap-gap-requires : goal.first_gap-gap-requires
first_gap-gap-requires c =
    let a = c.args in
    let e : holding_of (shelf_at a.words.now) (length a.store.now) a.key ≡ Ok c.in_ok-p.p = search rules in
    last-low _ _ _ _ e c.last_of-last.ensures

pub returns : goal.returns
returns c =
    let a = c.args in
    let e : holding_of (shelf_at a.words.now) (length a.store.now) a.key ≡ Ok c.in_ok-p.p = search rules in
    ap Ok (gap-read _ _ _ _ e c.mask_of.ensures c.last_of-last.ensures c.first_gap-gap.ensures) ∙ sym (missing-held _ _ _ _ e)
