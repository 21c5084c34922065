-- `programme_section::items` meets its promise: the loop keeps what is left of the items.
use Rattle.programme_section.proofs.Walk.{Going}
use Rattle.programme_section.proofs.items.Given as goal

abbrev pub invariant-loop-k : goal.invariant-loop-k
invariant-loop-k l = Going l.n l.payload l.count l.initial.out l.at l.k l.place l.out l.end
