-- `programme::own_in` meets its contract: each return is a way out of the loop.
use mathlib.Core.Path.{sym}
use native.Mathlib.Omega.{arith}
use Rattle.programme.proofs.Items.{own-early, own-cut, own-past, own-left, own-reads}
use Rattle.programme.proofs.own_in.Goals as goal

pub returns-then-at-lt-FIRST_ITEM : goal.returns-then-at-lt-FIRST_ITEM
returns-then-at-lt-FIRST_ITEM c = own-early _ _ c.if-at-lt-FIRST_ITEM.true

pub returns-then-size-at : goal.returns-then-size-at
returns-then-size-at c = own-cut _ _ c.if-at-lt-FIRST_ITEM.false (omega arith)

pub returns-in_default : goal.returns-in_default
returns-in_default c = own-past _ _ c.if-at-lt-FIRST_ITEM.false (omega arith) (sym c.in_default.ensures)

pub returns-then-end-size : goal.returns-then-end-size
returns-then-end-size c = own-left _ _ c.if-at-lt-FIRST_ITEM.false (omega arith) _ (sym c.in-Some.ensures) c.if-end-size.true

pub returns : goal.returns
returns c = own-reads _ _ c.if-at-lt-FIRST_ITEM.false (omega arith) _ (sym c.in-Some.ensures) c.if-end-size.false
