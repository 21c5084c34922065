-- `berth::by_pieces` meets its promise: the two pieces are the same exactly when the whole is.
use Rattle.berth.proofs.Pieces.{tail-differs, one_piece, two-pieces}
use borrow.Author.Rules.{rules}
use Rattle.berth.proofs.by_pieces.Goals as goal

pub returns-then-not-same_from : goal.returns-then-not-same_from
returns-then-not-same_from c = let last = c.same_from in
    tail-differs _ _ (search rules) _ (search rules) last.ensures c.if-not-same_from.true

pub returns-then-size-piece : goal.returns-then-size-piece
returns-then-size-piece c = let last = c.same_from in
    one_piece _ _ (search rules) _ (search rules) last.ensures c.if-not-same_from.false c.if-size-piece.true

pub returns : goal.returns
returns c = let last = c.same_from in
    let first = c.same_from-2 in
    two-pieces _ _ (search rules) _ (search rules) last.ensures c.if-not-same_from.false (search rules) first.ensures
