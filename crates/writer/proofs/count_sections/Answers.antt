-- `writer::count_sections` meets its promise: the last number is at most 15, so the count fits a byte.
use borrow.Author.Rules.{rules}
use native.Mathlib.Omega.{arith}
use Rattle.base.proofs.Tests.{tests}
use mathlib.Core.Path.{◌≡◌}
use borrow.Author.Tests.{le-ltb, ne_eqb}
use Prim.Native.Nat.{◌≤◌}
use Rattle.key.specs.Key.{nrt_it}
use Rattle.writer.specs.Writer.{longest_body, last_of, count_of}
use Rattle.writer.proofs.Laws.{last-le}
use Rattle.writer.proofs.count_sections.Goals as goal

pub returns-then-table-eq-NRT_IT : goal.returns-then-table-eq-NRT_IT
unfolding count_of
returns-then-table-eq-NRT_IT c = search tests

pub returns-then-length-gt-MOST : goal.returns-then-length-gt-MOST
unfolding count_of
returns-then-length-gt-MOST c = search tests

pub overflow_add-count : goal.overflow_add-count
overflow_add-count c = omega (arith, last-le c.args.length (search rules))

pub overflow_cast-result : goal.overflow_cast-result
overflow_cast-result c = omega (arith, last-le c.args.length (search rules))

pub returns : goal.returns
unfolding count_of
returns c = let table = c.args.table in
    let n = c.args.length in
    let l : last_of n ≤ 15 = last-le n (search rules) in
    let e : c.last_of-last.result ≡ last_of n = c.last_of-last.ensures in
    rw (ne_eqb table nrt_it (search rules), le-ltb longest_body n (search rules), e)
