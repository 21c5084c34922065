-- `is_one_lem` compares the three that make an activation.
use mathlib.Core.Path.{refl}
use Rattle.clock_activation.specs.Activation.{alike}
use Rattle.clock_record.proofs.is_one.Goals as goal

pub returns : goal.returns
unfolding alike
returns c = refl
