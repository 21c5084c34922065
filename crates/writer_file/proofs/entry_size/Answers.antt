-- `writer_file::entry_size` meets its promise: a section's length takes one group or two.
use borrow.Author.Rules.{rules}
use mathlib.Core.Path.{◌≡◌}
use Prim.Native.Nat.{◌+◌}
use native.Mathlib.Omega.{arith}
use Rattle.writer_file.specs.Sizes.{entry_size}
use Rattle.writer_file.proofs.Sizes.{one-group, two-groups}
use Rattle.writer_file.proofs.entry_size.Goals as goal

pub returns-then-size-lt-SECOND : goal.returns-then-size-lt-SECOND
returns-then-size-lt-SECOND c = let size = c.args.size in
    let e : entry_size size ≡ 1 + size = one-group size (search rules) in
    omega arith

pub returns-else-size-lt-SECOND : goal.returns-else-size-lt-SECOND
returns-else-size-lt-SECOND c = let size = c.args.size in
    let e : entry_size size ≡ 2 + size = two-groups size (search rules) (search rules) in
    omega arith
