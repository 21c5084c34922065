-- `programme_listing::sections` meets its promise: the loop keeps that the sections below `n` are told, and whether each is whole.
use mathlib.Core.Path.{◌≡◌}
use lib.ListN.{length}
use Rattle.base.specs.Below.{every}
use Rattle.file_listing.specs.Words.{lines}
use Rattle.text.specs.Over.{Wrote}
use Rattle.programme_listing.specs.Listing.{section_of, whole_at}
use Rattle.programme_listing.proofs.sections.Given as goal

abbrev pub invariant-loop-n : goal.invariant-loop-n
invariant-loop-n l = (length l.out ≡ length l.initial.out) × Wrote (lines l.n (section_of l.file l.table.starts l.table.lengths)) l.initial.out l.at l.out l.end × (l.whole ≡ every l.n (whole_at l.file l.table.starts l.table.lengths))
