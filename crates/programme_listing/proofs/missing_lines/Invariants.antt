-- `programme_listing::missing_lines` meets its promise: the loop keeps that the lines below `k` are written.
use mathlib.Core.Path.{◌≡◌}
use lib.ListN.{length}
use Rattle.file_listing.specs.Listing.{missing_of}
use Rattle.file_listing.specs.Words.{lines}
use Rattle.text.specs.Over.{Wrote}
use Rattle.programme_listing.proofs.missing_lines.Given as goal

abbrev pub invariant-loop-k : goal.invariant-loop-k
invariant-loop-k l = (length l.out ≡ length l.initial.out) × Wrote (lines l.k (missing_of l.table.lengths)) l.initial.out l.at l.out l.end
