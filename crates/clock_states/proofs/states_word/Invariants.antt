-- `states_word` puts one digit more below the others.
use mathlib.Core.Path.{◌≡◌}
use lib.ListN.{drop}
use Rattle.clock_states.proofs.States.{word_in}
use Rattle.clock_states.proofs.states_word.Given as goal

abbrev pub invariant-loop-i : goal.invariant-loop-i
invariant-loop-i l = l.word ≡ word_in (drop l.i l.apps)
