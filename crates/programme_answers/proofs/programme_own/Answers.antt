-- `programme_own` meets its promise: in each arm the loop is the one that `programme::own_loop` promises.
use mathlib.Core.Path.{sym}
use Rattle.programme.proofs.Within.{own-within}
use Rattle.programme_answers.proofs.programme_own.Goals as goal

pub loop_code-requires : goal.loop_code-requires
loop_code-requires c = own-within _ _ _ (sym c.in-Ok.ensures)
