-- `writer::last_of` meets its promise by arithmetic.
use native.Mathlib.Omega.{arith}
use Rattle.writer.specs.Writer.{last_of}
use Rattle.writer.proofs.last_of.Goals as goal

pub returns-then-length-eq0 : goal.returns-then-length-eq0
unfolding last_of
returns-then-length-eq0 c = omega arith

pub returns-else-length-eq0 : goal.returns-else-length-eq0
unfolding last_of
returns-else-length-eq0 c = omega arith
