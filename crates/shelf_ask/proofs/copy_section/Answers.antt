-- `shelf_ask::copy_section` meets its promise.
use borrow.Author.Rules.{rules}
use mathlib.Core.Path.{◌≡◌, sym, ap, ◌∙◌}
use lib.ListN.{length}
use Rattle.std.specs.Prelude.{Ok}
use Rattle.shelf.specs.Layout.{shelf_at}
use Rattle.refusal.proofs.Numbers.{handed_on}
use Rattle.shelf_ask.specs.Ask.{holding_of}
use Rattle.berth.specs.Calls.{copied_in}
use Rattle.shelf.specs.Record.{place_at, length_at}
use Rattle.shelf.specs.Calls.{length_among}
use Rattle.shelf_ask.proofs.Held.{copy-refused, copy-16, copy-15, copy_done}
use Rattle.shelf_ask.proofs.Numbers.{length-read, length-past}
use Rattle.shelf_ask.specs.Ask.{copy}
use Rattle.shelf_ask.proofs.copy_section.Goals as goal

pub returns-in_err-p : goal.returns-in_err-p
returns-in_err-p c =
    ap (λ r. copy r c.args.out.now) (handed_on c.from_residual.result c.from_residual.ensures.1)
    ∙ sym (copy-refused _ _ _ _ (search rules) _ _)

pub returns-then-count-eq0 : goal.returns-then-count-eq0
returns-then-count-eq0 c =
    let a = c.args in
    let e : holding_of (shelf_at a.words.now) (length a.store.now) a.key ≡ Ok c.in_ok-p.p = search rules in
    let n = c.from-count.ensures ∙ length-read _ _ _ _ e _ c.length_of.ensures ∙ ap (length_at (place_at (shelf_at a.words.now) c.in_ok-p.p)) c.from-number.ensures in
    sym (copy-16 _ _ _ _ e _ _ _ n c.if-count-eq0.true)

pub returns-then-out-count : goal.returns-then-out-count
returns-then-out-count c =
    let a = c.args in
    let e : holding_of (shelf_at a.words.now) (length a.store.now) a.key ≡ Ok c.in_ok-p.p = search rules in
    let n = c.from-count.ensures ∙ length-read _ _ _ _ e _ c.length_of.ensures ∙ ap (length_at (place_at (shelf_at a.words.now) c.in_ok-p.p)) c.from-number.ensures in
    sym (copy-15 _ _ _ _ e _ _ _ n c.if-count-eq0.false c.if-out-count.true)

pub returns : goal.returns
returns c =
    let a = c.args in
    let e : holding_of (shelf_at a.words.now) (length a.store.now) a.key ≡ Ok c.in_ok-p.p = search rules in
    let n = c.from-count.ensures ∙ length-read _ _ _ _ e _ c.length_of.ensures ∙ ap (length_at (place_at (shelf_at a.words.now) c.in_ok-p.p)) c.from-number.ensures in
    let m = c.length_of.ensures ∙ ap (length_among a.words.now c.in_ok-p.p) c.from-number.ensures in
    ap (copy _) (c.copy_out.ensures ∙ ap (λ k. copied_in a.store.now c.in_ok-p.p k c.from-count.result a.out.now) c.from-number.ensures)
    ∙ sym (copy_done _ _ _ _ e _ _ _ n c.if-count-eq0.false (search rules) (λ past. c.from-count.ensures ∙ length-past _ _ _ _ e _ m past))
