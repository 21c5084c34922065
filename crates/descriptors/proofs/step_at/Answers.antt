-- `descriptors::step_at` meets its contract: each return is a law on a step. Assumes nothing.
use borrow.Author.Rules.{rules}
use native.Mathlib.Omega.{arith}
use Rattle.descriptors.proofs.Steps.{step_over, step_past, step-reads}
use Rattle.descriptors.proofs.step_at.Goals as goal

pub returns-then-at-size : goal.returns-then-at-size
returns-then-at-size c = step_over _ _ (search rules)

pub returns-then-size-at : goal.returns-then-size-at
returns-then-size-at c = step_past _ _ c.if-at-size.false (omega arith)

pub returns-then-left-lt-HEAD : goal.returns-then-left-lt-HEAD
returns-then-left-lt-HEAD c = step_past _ _ c.if-at-size.false (omega arith)

pub returns-then-left-length : goal.returns-then-left-length
returns-then-left-length c = step_past _ _ c.if-at-size.false (omega arith)

pub returns : goal.returns
returns c = rw c.from-length.ensures (step-reads _ _ (omega arith))
