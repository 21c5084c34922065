-- `clock_move`: what a move counts is few.
use mathlib.Core.Path.{sym, subst}
use Rattle.clock_answers.specs.Calls.{FewIn}
use Rattle.clock_answers.proofs.Calls.{few}
use Rattle.clock_answers.proofs.clock_move.Goals as goal

pub moved_code-requires : goal.moved_code-requires
moved_code-requires c = subst FewIn (sym c.move_to.ensures.value) (few c.args.words.now c.args.to)
