-- `two_same`: what is left to scan answers as the whole does, four at a time and then one.
use mathlib.Core.Path.{sym, ap, ◌∙◌}
use Rattle.base.proofs.Tests.{told}
use Rattle.clock_record.specs.Codes.{two_same}
use Rattle.clock_record.proofs.Scan.{same-none, one-part, four-parts, same-found, same_more, four-found, four-more}
use Rattle.clock_record.proofs.two_same.Goals as goal

pub returns-then-two_of_four-four_in : goal.returns-then-two_of_four-four_in
returns-then-two_of_four-four_in c = let o = c.loop-rest in
    sym
    (o.invariant
    ∙ ap two_same (four-parts o.rest.now c.in-len4-up.len_at_least)
    ∙ four-found _ _ _ _ _ (rw (← c.two_of_four.ensures, ← c.four_in.ensures) c.if-two_of_four-four_in.true))

pub loop-rest-preserved : goal.loop-rest-preserved
loop-rest-preserved c = let o = c.loop-rest in
    o.invariant
    ∙ ap two_same (four-parts o.rest.now c.in-len4-up.len_at_least)
    ∙ four-more _ _ _ _ _ (rw (← c.two_of_four.ensures, ← c.four_in.ensures) c.if-two_of_four-four_in.false)

pub returns-then-is_in : goal.returns-then-is_in
returns-then-is_in c = let o = c.loop-rest-2 in
    sym
    (o.invariant
    ∙ ap two_same (one-part o.rest.now c.in-len1-up.len_at_least)
    ∙ same-found _ _ (told c.is_in.ensures c.if-is_in.true))

pub loop-rest-2-preserved : goal.loop-rest-2-preserved
loop-rest-2-preserved c = let o = c.loop-rest-2 in
    o.invariant
    ∙ ap two_same (one-part o.rest.now c.in-len1-up.len_at_least)
    ∙ same_more _ _ (told c.is_in.ensures c.if-is_in.false)

pub returns : goal.returns
returns c = let o = c.loop-rest-2 in sym (o.invariant ∙ same-none o.rest.now c.in_default-rest.len_below)
