-- `programme_listing::section_of` meets its promise.
use mathlib.Core.Path.{◌≡◌}
use Prim.Native.Nat.{◌+◌, ◌-◌}
use native.Mathlib.Omega.{arith}
use lib.ListN.{get_or}
use Rattle.programme_listing.proofs.Numbers.{no-section, a-section}
use Rattle.programme_listing.proofs.section_of.Goals as goal

pub returns-then-length-eq0-clause-wrote : goal.returns-then-length-eq0-clause-wrote
returns-then-length-eq0-clause-wrote c = (no-section _ _ _ _ c.from-i.ensures c.if-length-eq0.true).0

pub returns-then-length-eq0-clause-whole_value : goal.returns-then-length-eq0-clause-whole_value
returns-then-length-eq0-clause-whole_value c = (no-section _ _ _ _ {out = c.args.out.now} {at = c.args.at} c.from-i.ensures c.if-length-eq0.true).1

pub returns-clause-wrote : goal.returns-clause-wrote
returns-clause-wrote c =
    let from = get_or c.args.table.now.starts c.from-i.result 0 in
    let size = c.from.ensures in
    let long : from + c.from.result - from ≡ get_or c.args.table.now.lengths c.from-i.result 0 = omega arith in
    (a-section _ _ _ _ c.from-i.ensures (from + c.from.result - from) c.if-length-eq0.false long c.section.ensures.wrote c.section.ensures.whole_value).0

pub returns-clause-whole_value : goal.returns-clause-whole_value
returns-clause-whole_value c =
    let from = get_or c.args.table.now.starts c.from-i.result 0 in
    let size = c.from.ensures in
    let long : from + c.from.result - from ≡ get_or c.args.table.now.lengths c.from-i.result 0 = omega arith in
    (a-section _ _ _ _ c.from-i.ensures (from + c.from.result - from) c.if-length-eq0.false long c.section.ensures.wrote c.section.ensures.whole_value).1
