-- `text::escaped` meets its promise: the loop keeps what is left of the name.
use mathlib.Core.Path.{◌≡◌}
use lib.ListN.{length, drop}
use Rattle.text.specs.Words.{escaped}
use Rattle.text.proofs.Writing.{Left}
use Rattle.text.proofs.escaped.Given as goal

abbrev pub invariant-loop-b : goal.invariant-loop-b
invariant-loop-b l = Left (escaped l.name) l.initial.out l.at (escaped (drop l.b-index l.name)) l.out l.end × (length l.out ≡ length l.initial.out)
