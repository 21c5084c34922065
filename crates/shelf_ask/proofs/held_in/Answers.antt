-- `shelf_ask::held_in` meets its promise.
use borrow.Author.Rules.{rules}
use mathlib.Core.Path.{sym, ◌∙◌}
use Rattle.base.proofs.Tests.{told}
use Rattle.refusal.proofs.Numbers.{handed_on}
use Rattle.shelf.specs.Layout.{shelf_at}
use Rattle.shelf_ask.proofs.Held.{lent-whole, lent-sound, in-refused, in-14, in_place_lem}
use Rattle.shelf_ask.proofs.Numbers.{place_read}
use Rattle.shelf_ask.proofs.held_in.Goals as goal

pub returns-in_err-unlent : goal.returns-in_err-unlent
returns-in_err-unlent c = handed_on c.from_residual.result c.from_residual.ensures.1 ∙ in-refused _ _ _ (search rules)

pub returns-then-p-eq-PLACES : goal.returns-then-p-eq-PLACES
returns-then-p-eq-PLACES c =
    let a = c.args in
    let w = lent-whole (shelf_at a.words.now) a.size (search rules) in
    let s = lent-sound (shelf_at a.words.now) a.size (search rules) in
    sym (in-14 _ _ _ w s (told (place_read _ _ s c.place_of-p.ensures.0) c.if-p-eq-PLACES.true))

pub returns : goal.returns
returns c =
    let a = c.args in
    let w = lent-whole (shelf_at a.words.now) a.size (search rules) in
    let s = lent-sound (shelf_at a.words.now) a.size (search rules) in
    sym (in_place_lem _ _ _ w s _ (place_read _ _ s c.place_of-p.ensures.0) c.if-p-eq-PLACES.false)
