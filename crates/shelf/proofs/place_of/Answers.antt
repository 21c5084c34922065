-- `shelf::place_of` meets its promise: a key that no four numbers say is nowhere, and any other is where `place_of_said` says.
use borrow.Author.Rules.{rules}
use mathlib.Core.Path.{sym}
use Rattle.shelf.proofs.Alike.{nowhere, unsaid}
use Rattle.shelf.proofs.place_of.Goals as goal

pub returns-then-not-same : goal.returns-then-not-same
returns-then-not-same c = (sym (nowhere _ _ (unsaid _ c.from-said.ensures c.same.ensures c.if-not-same.true)), search rules)
