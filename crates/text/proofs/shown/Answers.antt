-- `text::shown` meets its promise.
use mathlib.Core.Path.{sym, ◌∙◌}
use Rattle.text.proofs.Writing.{then}
use Rattle.text.proofs.Names.{as-it-is, in-digits}
use Rattle.text.proofs.shown.Goals as goal

pub returns-then-plain : goal.returns-then-plain
returns-then-plain c = as-it-is _ (sym c.plain.ensures ∙ c.if-plain.true) c.put.ensures

pub returns : goal.returns
returns c = let high = rw c.hex.ensures at c.put-high.ensures in
    let low = rw c.hex-2.ensures at c.put-2.ensures in
    in-digits _ (sym c.plain.ensures ∙ c.if-plain.false) (then c.put-slash.ensures (then c.put-x.ensures (then high low)))
