-- `Text::section_lines` meets its promise: the loop keeps that the lines below `n` are written, each in 26 bytes at most.
use Prim.Native.Nat.{◌*◌}
use Rattle.file_listing.specs.Listing.{section_of}
use Rattle.file_listing.specs.Words.{lines}
use Rattle.file_listing.specs.Growing.{Grew}
use Rattle.file_listing.proofs.Text.section_lines.Given as goal

abbrev pub invariant-loop-n : goal.invariant-loop-n
invariant-loop-n l = Grew (lines l.n (section_of l.lengths)) (26 * l.n) l.initial.self l.self
