-- `shelf_ask::taken_in` meets its promise.
use borrow.Author.Rules.{rules}
use mathlib.Core.Path.{sym, ◌∙◌}
use native.Mathlib.Omega.{arith}
use Prim.Native.Nat.{◌+◌, ◌*◌}
use Rattle.refusal.proofs.Numbers.{handed_on}
use Rattle.shelf.specs.Layout.{shelf_at}
use Rattle.shelf_ask.proofs.Held.{lent-whole, lent-sound}
use Rattle.shelf_ask.proofs.Tables.{taken_refused, taken-14, head-place, head-free}
use Rattle.shelf_ask.proofs.taken_in.Goals as goal

pub returns-in_err-unlent : goal.returns-in_err-unlent
returns-in_err-unlent c = handed_on c.from_residual.result c.from_residual.ensures.1 ∙ taken_refused _ _ _ (search rules)

pub returns-then-key_number-ne1 : goal.returns-then-key_number-ne1
returns-then-key_number-ne1 c =
    let a = c.args in
    let w = lent-whole (shelf_at a.words.now) a.size (search rules) in
    let s = lent-sound (shelf_at a.words.now) a.size (search rules) in
    sym (taken-14 _ _ _ w s
    (head-free _ _ (omega (arith, c.type_inv.words (64 + 4 * a.p))) s c.key_number.ensures c.if-key_number-ne1.true))

pub returns : goal.returns
returns c =
    let a = c.args in
    let w = lent-whole (shelf_at a.words.now) a.size (search rules) in
    let s = lent-sound (shelf_at a.words.now) a.size (search rules) in
    sym (head-place _ _ (omega (arith, c.type_inv.words (64 + 4 * a.p))) s _ w c.key_number.ensures c.if-key_number-ne1.false)
