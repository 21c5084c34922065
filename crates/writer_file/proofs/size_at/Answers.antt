-- `writer_file::size_at` meets its promise by its one test.
use borrow.Author.Rules.{rules}
use Prim.Native.Nat.{◌≤◌}
use Rattle.writer.specs.Writer.{last_of}
use Rattle.writer.proofs.Laws.{last-le, starts-within}
use Rattle.writer_file.proofs.size_at.Goals as goal

pub overflow_mul-start : goal.overflow_mul-start
overflow_mul-start c = let l : last_of c.args.length ≤ 15 = last-le c.args.length (search rules) in search rules

pub overflow_sub-left : goal.overflow_sub-left
overflow_sub-left c = starts-within c.args.length c.args.k (search rules)
