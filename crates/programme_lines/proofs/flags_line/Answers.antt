-- `programme_lines::flags_line` meets its promise: the fields follow each other.
use mathlib.Core.Path.{◌≡◌}
use Prim.Native.Nat.{◌/◌, ◌%◌}
use native.Mathlib.Omega.{arith}
use Rattle.text.proofs.Writing.{then-two}
use Rattle.text.specs.Words.{field}
use Rattle.programme_lines.specs.Lines.{flags_line}
use Rattle.programme_lines.proofs.flags_line.Goals as goal

pub returns : goal.returns
unfolding flags_line
returns c = let flags = c.args.flags in
    let lowest : flags / 1 ≡ flags = omega arith in
    (then-two (field "updates " (flags / 512 % 2)) (field " fragment " (flags / 256 % 2)) (rw (c.flag.ensures, c.flag-2.ensures) at c.pair-fragment.ensures)
    (then-two (field " protected " (flags / 128 % 2)) (field " master " (flags / 64 % 2)) (rw (c.flag-3.ensures, c.flag-4.ensures) at c.pair-master.ensures)
    (rw (c.flag-5.ensures, c.flag-6.ensures) at c.pair_line.ensures)))
