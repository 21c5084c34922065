-- `shelf_offer::refuse` meets its promise.
use mathlib.Core.Path.{sym, ap, subst, ◌∙◌}
use Rattle.std.specs.Prelude.{IsErr}
use Rattle.refusal.specs.Refusal.{number_of}
use Rattle.shelf.specs.Record.{spoiled_of}
use Rattle.shelf.specs.Layout.{shelf_at}
use Rattle.shelf_check.specs.Unless.{unless_spoiled}
use Rattle.shelf_offer.proofs.refuse.Goals as goal

pub unwrap_err-refusal-requires : goal.unwrap_err-refusal-requires
unwrap_err-refusal-requires c = subst IsErr (sym c.read.ensures) c.requires.refused

pub returns : goal.returns
returns c =
    let spoiled = spoiled_of (shelf_at c.args.words.now) in
    c.settle.ensures
    ∙ ap (unless_spoiled spoiled) (c.code_of.ensures ∙ ap number_of (sym c.unwrap_err-refusal.ensures ∙ c.read.ensures))
