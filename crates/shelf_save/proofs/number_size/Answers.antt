-- `shelf_save::number_size` meets its promise.
use native.Mathlib.Omega.{arith}
use borrow.Author.Rules.{rules}
use Rattle.shelf_save.proofs.Adding.{spelt-1-size, spelt-2-size, spelt-3-size}
use Rattle.shelf_save.proofs.number_size.Goals as goal

pub returns-then-n-lt-TWO_GROUPS : goal.returns-then-n-lt-TWO_GROUPS
returns-then-n-lt-TWO_GROUPS c = (spelt-1-size _ (search rules), omega arith)

pub returns-then-n-lt-THREE_GROUPS : goal.returns-then-n-lt-THREE_GROUPS
returns-then-n-lt-THREE_GROUPS c = (spelt-2-size _ (search rules) (search rules), omega arith)

pub returns-else-n-lt-THREE_GROUPS : goal.returns-else-n-lt-THREE_GROUPS
returns-else-n-lt-THREE_GROUPS c = (spelt-3-size _ (search rules) (search rules), omega arith)
