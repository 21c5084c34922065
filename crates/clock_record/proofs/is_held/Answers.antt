-- `is_held` looks at as many places as there are.
use mathlib.Core.Path.{ap, ◌∙◌}
use Prim.Native.Nat.{ℕ}
use lib.ListN.{take}
use Rattle.clock_record.specs.Held.{is_held}
use Rattle.clock_record.specs.Words.{word_at, helds_in}
use Rattle.clock_record.proofs.Scan.{take_within}
use Rattle.clock_record.proofs.Back.{places}
use Rattle.clock_record.proofs.is_held.Goals as goal

pub returns : goal.returns
returns c = let g = c.args in let w = g.words.now in
    c.is_among.ensures
    ∙ ap (λ (n : ℕ). is_held g.a (take n (helds_in w))) c.within-n.ensures
    ∙ ap (is_held g.a) (take_within (word_at w 2) (helds_in w) 32 (places w))
