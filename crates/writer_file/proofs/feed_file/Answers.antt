-- `writer_file::feed_file` meets its promise.
use borrow.Author.Rules.{rules}
use native.Mathlib.Omega.{arith}
use lib.ListN.{length}
use Rattle.refusal.proofs.Numbers.{handed_on}
use Rattle.writer.proofs.Laws.{counted-known}
use Rattle.writer_file.proofs.Answers.{uncounted-feed, feed-41, feed-15, feed-done}
use Rattle.writer_file.proofs.feed_file.Goals as goal

pub returns-in_err-count : goal.returns-in_err-count
returns-in_err-count c =
    rw (handed_on c.from_residual.result c.from_residual.ensures.1) (uncounted-feed c.args.label c.args.body.now c.args.out.now _ (search rules))

pub returns-then-label-gt-HIGHEST_VERSION : goal.returns-then-label-gt-HIGHEST_VERSION
returns-then-label-gt-HIGHEST_VERSION c =
    let w = counted-known c.args.label.table (length c.args.body.now) c.in_ok-count.count (search rules) in
    feed-41 _ _ _ w.0 w.1 c.if-label-gt-HIGHEST_VERSION.true

pub overflow_sub-from : goal.overflow_sub-from
overflow_sub-from c = omega (arith, c.from.ensures, (counted-known c.args.label.table (length c.args.body.now) c.in_ok-count.count (search rules)).2)

pub file_size-size-requires : goal.file_size-size-requires
file_size-size-requires c =
    let w = counted-known c.args.label.table (length c.args.body.now) c.in_ok-count.count (search rules) in
    (w.1, omega (arith, c.from.ensures, w.2))

pub returns-then-out-size : goal.returns-then-out-size
returns-then-out-size c =
    let w = counted-known c.args.label.table (length c.args.body.now) c.in_ok-count.count (search rules) in
    feed-15 _ _ _ w.0 w.1 c.if-label-gt-HIGHEST_VERSION.false c.file_size-size.ensures c.if-out-size.true

pub write_file-requires-clause-not_label_table : goal.write_file-requires-clause-not_label_table
write_file-requires-clause-not_label_table c =
    let w = counted-known c.args.label.table (length c.args.body.now) c.in_ok-count.count (search rules) in
    (w.0, w.1, c.if-label-gt-HIGHEST_VERSION.false, w.2)

pub returns : goal.returns
returns c =
    let w = counted-known c.args.label.table (length c.args.body.now) c.in_ok-count.count (search rules) in
    feed-done _ _ _ w.0 w.1 c.if-label-gt-HIGHEST_VERSION.false c.file_size-size.ensures c.if-out-size.false c.write_file.ensures.out_after
