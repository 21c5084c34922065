-- `shelf_check::one_key` meets its promise: the first place is free, the heads begin differently, or the keys are compared.
use Prim.Native.Nat.{◌+◌, ◌*◌}
use native.Mathlib.Omega.{arith}
use mathlib.Core.Path.{◌∙◌}
use Rattle.shelf.proofs.Numbers.{among-key, found-key}
use Rattle.shelf_check.proofs.Whole.{free-first, heads-differ, keys-alike}
use borrow.Author.Rules.{rules}
use Rattle.shelf_check.proofs.one_key.Goals as goal

pub returns-then-words-p-ne1 : goal.returns-then-words-p-ne1
returns-then-words-p-ne1 c = free-first _ _ _ c.if-words-p-ne1.true

pub returns-then-key_number : goal.returns-then-key_number
returns-then-key_number c = heads-differ _ _ _ (c.key_number.ensures ∙ among-key _ _ (search rules) (search rules)) (c.key_number-2.ensures ∙ among-key _ _ (search rules) (search rules)) c.if-key_number.true

pub returns : goal.returns
returns c = keys-alike _ _ _ (c.key_number.ensures ∙ among-key _ _ (search rules) (search rules)) (c.key_number-2.ensures ∙ among-key _ _ (search rules) (search rules)) c.if-words-p-ne1.false
    (omega (arith, c.fits-words (64 + 4 * c.args.p)))
    (omega (arith, c.fits-words (64 + 4 * c.args.q)))
    c.if-key_number.false c.same.ensures
    (c.key_in.ensures ∙ found-key _ _ (search rules) (search rules)) (c.key_in-2.ensures ∙ found-key _ _ (search rules) (search rules))
