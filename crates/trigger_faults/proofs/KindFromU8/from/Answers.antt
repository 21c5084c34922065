-- The kind of a type: each arm fixes the type.
use native.Mathlib.Omega.{arith}
use mathlib.Core.Path.{sym}
use Rattle.trigger_faults.specs.Kinds.{kind_in}
use Rattle.trigger_faults.proofs.Types.{other}
use Rattle.trigger_faults.proofs.KindFromU8.from.Goals as goal

pub returns-in-0 : goal.returns-in-0
unfolding kind_in
returns-in-0 c = rw c.in-0.is

pub returns-in-1 : goal.returns-in-1
unfolding kind_in
returns-in-1 c = rw c.in-1.is

pub returns-in-2 : goal.returns-in-2
unfolding kind_in
returns-in-2 c = rw c.in-2.is

pub returns-in-3 : goal.returns-in-3
unfolding kind_in
returns-in-3 c = rw c.in-3.is

pub returns-in-4 : goal.returns-in-4
unfolding kind_in
returns-in-4 c = rw c.in-4.is

pub returns-in-5 : goal.returns-in-5
unfolding kind_in
returns-in-5 c = rw c.in-5.is

pub returns-in_default : goal.returns-in_default
returns-in_default c = sym (other _ (omega arith))
