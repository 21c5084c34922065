-- `file::scan_sections` meets its promise. The loop keeps that what is left answers as the whole does.
use mathlib.Core.Path.{◌≡◌}
use lib.ListN.{length}
use Rattle.file.specs.Scan.{nothing, sections_of}
use Rattle.file.proofs.Sections.{seen_as}
use Rattle.file.proofs.scan_sections.Given as goal

abbrev pub invariant-loop-left : goal.invariant-loop-left
invariant-loop-left l = (length l.starts ≡ 16)
    × (length l.lengths ≡ 16)
    × (sections_of l.left l.file (seen_as l.first l.lowest l.next l.starts l.lengths) ≡ sections_of l.count l.file (nothing l.from))

abbrev pub decreases-loop-left : goal.decreases-loop-left
decreases-loop-left l = l.left
