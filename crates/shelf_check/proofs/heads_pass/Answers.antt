-- `shelf_check::heads_pass` meets its promise: no link of its chain stops the pass, or none of the masks does and the lists differ.
use mathlib.Core.Path.{◌∙◌}
use Rattle.shelf.proofs.Numbers.{among-key}
use Rattle.shelf_check.proofs.Pass.{heads-fine}
use borrow.Author.Rules.{rules}
use Rattle.shelf_check.proofs.heads_pass.Goals as goal

pub returns : goal.returns
returns c = λ _.
    heads-fine _ (c.key_number-first.ensures ∙ among-key _ 0 (search rules) (search rules)) (c.key_number-second.ensures ∙ among-key _ 1 (search rules) (search rules))
    (c.key_number-third.ensures ∙ among-key _ 2 (search rules) (search rules)) (c.key_number-fourth.ensures ∙ among-key _ 3 (search rules) (search rules))
    c.masks_stop-masks.ensures c.if-any_stops.false
