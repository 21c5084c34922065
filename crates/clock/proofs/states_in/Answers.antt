-- `states_in` keeps the bits of the states.
use mathlib.Core.Path.{sym}
use Rattle.clock_states.proofs.States.{states-kept}
use Rattle.clock.proofs.states_in.Goals as goal

pub returns : goal.returns
returns c = sym (states-kept c.args.word)
