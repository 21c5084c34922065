-- `writer_file::file_size` meets its promise by the sizes of its parts.
use borrow.Author.Rules.{rules}
use mathlib.Core.Path.{◌≡◌, ap, ◌∙◌}
use Prim.Native.Nat.{◌≤◌}
use native.Mathlib.Omega.{arith}
use Rattle.writer.specs.Writer.{last_of}
use Rattle.writer.proofs.Laws.{last-le}
use Rattle.writer_file.specs.Sizes.{size_at, entry_size}
use Rattle.writer_file.proofs.Sizes.{entry-small}
use Rattle.writer_file.proofs.file_size.Goals as goal

pub overflow_mul-result : goal.overflow_mul-result
overflow_mul-result c = let n = c.args.length in
    let l : last_of n ≤ 15 = last-le n (search rules) in
    search rules

pub overflow_add-result : goal.overflow_add-result
overflow_add-result c = let n = c.args.length in
    let l : last_of n ≤ 15 = last-le n (search rules) in
    search rules

pub overflow_add-result-2 : goal.overflow_add-result-2
overflow_add-result-2 c = let n = c.args.length in
    let l : last_of n ≤ 15 = last-le n (search rules) in
    let m : entry_size (size_at n (last_of n)) ≤ 1026 = entry-small n (last_of n) (omega arith) in
    let e : c.entry_size-entry.result ≡ entry_size (size_at n (last_of n))
    = c.entry_size-entry.ensures ∙ ap entry_size (c.size_at-size.ensures.0 ∙ ap (size_at n) c.requires.1) in
    search rules
