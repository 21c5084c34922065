-- `fresh`: the words of a fresh clock are zeros.
use mathlib.Core.Path.{refl}
use Rattle.clock_states.specs.States.{states_word}
use Rattle.clock_record.specs.Words.{words_with, pairs}
use Rattle.clock.proofs.Clock.fresh.Goals as goal

pub returns : goal.returns
unfolding words_with pairs states_word
returns c = refl
