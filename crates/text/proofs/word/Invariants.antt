-- `text::word` meets its promise: the loop keeps what is left of the word.
use mathlib.Core.Path.{◌≡◌}
use lib.ListN.{length, drop}
use Rattle.text.proofs.Writing.{Left}
use Rattle.text.proofs.word.Given as goal

abbrev pub invariant-loop-b : goal.invariant-loop-b
invariant-loop-b l = Left (l.w) l.initial.out l.at (drop l.b-index l.w) l.out l.end × (length l.out ≡ length l.initial.out)
