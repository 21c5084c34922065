-- `file_listing::all_held` meets its promise: the loop keeps whether every number below is held.
use mathlib.Core.Path.{◌≡◌}
use Rattle.base.specs.Below.{every}
use Rattle.file.specs.Scan.{found_at}
use Rattle.file_listing.proofs.all_held.Given as goal

abbrev pub invariant-loop-number : goal.invariant-loop-number
invariant-loop-number l = l.all ≡ every l.number (found_at l.lengths)
