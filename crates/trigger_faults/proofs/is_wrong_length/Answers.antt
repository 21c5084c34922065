-- `trigger_faults::is_wrong_length` meets its contract: each arm fixes the type. Assumes nothing.
use borrow.Author.Tests.{eq-eqb, ne_eqb}
use Rattle.trigger_faults.specs.Fields.{wrong_length}
use Rattle.trigger_faults.proofs.Truth.{and_none, or-none}
use Rattle.trigger_faults.proofs.Types.{no-length}
use Rattle.trigger_faults.proofs.is_wrong_length.Goals as goal

pub returns-then-count-eq0 : goal.returns-then-count-eq0
unfolding wrong_length
returns-then-count-eq0 c = simp (eq-eqb _ _ c.if-count-eq0.true, and_none)

pub returns-in-None : goal.returns-in-None
unfolding wrong_length
returns-in-None c = rw (c.in-None.is, ne_eqb _ _ c.if-count-eq0.false)

pub returns-in-Module : goal.returns-in-Module
unfolding wrong_length
returns-in-Module c = rw (c.in-Module.is, ne_eqb _ _ c.if-count-eq0.false, or-none)

pub returns-in-Tap : goal.returns-in-Tap
unfolding wrong_length
returns-in-Tap c = rw (c.in-Tap.is, ne_eqb _ _ c.if-count-eq0.false)

pub returns-in_default : goal.returns-in_default
returns-in_default c = no-length _ _ c.in_default.not-None c.in_default.not-Module c.in_default.not-Tap
