-- `berth::each_equal` meets its promise: the runs are one piece.
use borrow.Author.Rules.{rules}
use Rattle.berth.proofs.Steps.{same-other}
use Rattle.berth.proofs.Pieces.{whole-piece}
use Rattle.berth.proofs.each_equal.Goals as goal

pub returns-then-a-b : goal.returns-then-a-b
returns-then-a-b c = same-other _ _ c.if-a-b.true

pub returns : goal.returns
returns c = whole-piece _ _ (search rules) c.same_from.ensures
