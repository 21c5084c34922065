-- `file::same_table` meets its promise, part by part.
use borrow.Author.Rules.{rules}
use Rattle.base.proofs.Tests.{cascade}
use Rattle.file.specs.Layout.{same_table}
use Rattle.file.proofs.same_table.Goals as goal
use Rattle.file.proofs.same_table.Goals.{then-same, else-same}

pub returns-then-a-b : goal.returns-then-a-b
unfolding same_table
returns-then-a-b c = elim c.if-same.branch [
  | then-same w ↦ search (cascade, rules) depth 8
  | else-same w ↦ search (cascade, rules) depth 8
]

pub returns-else-a-b : goal.returns-else-a-b
unfolding same_table
returns-else-a-b c = elim c.if-same.branch [
  | then-same w ↦ search (cascade, rules) depth 8
  | else-same w ↦ search (cascade, rules) depth 8
]
