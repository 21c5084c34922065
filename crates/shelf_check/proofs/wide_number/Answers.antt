-- `shelf_check::wide_number` meets its promise: the head, and of a list more of its key.
use borrow.Author.Rules.{rules}
use mathlib.Core.Path.{◌≡◌, ◌∙◌}
use Rattle.shelf.specs.Calls.{key_among}
use Rattle.shelf.proofs.Numbers.{among-key, among-rest}
use Rattle.shelf_check.proofs.Whole.{wide-plain, wide-list}
use Rattle.shelf_check.proofs.wide_number.Goals as goal

pub returns-then-words-p-ne-LIST : goal.returns-then-words-p-ne-LIST
returns-then-words-p-ne-LIST c = let number : c.from-number.result ≡ key_among c.args.words.now c.args.p = search rules in
    wide-plain _ _ (number ∙ among-key _ _ (search rules) (search rules)) c.if-words-p-ne-LIST.true

pub returns : goal.returns
returns c = let number : c.from-number.result ≡ key_among c.args.words.now c.args.p = search rules in
    wide-list _ _ (number ∙ among-key _ _ (search rules) (search rules)) c.if-words-p-ne-LIST.false (c.rest_number.ensures ∙ among-rest _ _ (search rules) (search rules))
