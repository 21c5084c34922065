-- `writer_file::write_file` meets its promise: after each turn the front of the file stands, up to one section more.
use mathlib.Core.Path.{◌≡◌}
use mathlib.Core.List.{◌++◌}
use lib.ListN.{length, drop}
use Rattle.writer_file.specs.Sizes.{front_of}
use Rattle.writer_file.proofs.write_file.Given as goal

abbrev pub invariant-loop-k : goal.invariant-loop-k
invariant-loop-k l = (length l.out ≡ length l.initial.out)
    × (l.at ≡ length (front_of l.label l.body l.count l.k))
    × (l.out ≡ front_of l.label l.body l.count l.k ++ drop (length (front_of l.label l.body l.count l.k)) l.initial.out)
