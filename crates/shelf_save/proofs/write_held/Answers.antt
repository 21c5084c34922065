-- `shelf_save::write_held` meets its promise.
use native.Mathlib.Omega.{arith}
use borrow.Author.Rules.{rules}
use Rattle.shelf_save.proofs.Writing.{as-room, held_none, held-end, held-written, room-length, room-start}
use Rattle.shelf_save.proofs.write_held.Goals as goal

pub returns-then-size-eq0-clause-value : goal.returns-then-size-eq0-clause-value
returns-then-size-eq0-clause-value c = (held_none c.args.store.now c.args.p c.args.n c.args.size c.args.out.now c.args.at c.if-size-eq0.true).0

pub returns-then-size-eq0-clause-out_after : goal.returns-then-size-eq0-clause-out_after
returns-then-size-eq0-clause-out_after c = (held_none c.args.store.now c.args.p c.args.n c.args.size c.args.out.now c.args.at c.if-size-eq0.true).1

pub write_at-start-requires : goal.write_at-start-requires
write_at-start-requires c =
    let r = as-room c.requires.p_lt_places c.requires.size_le_berth_size c.if-size-eq0.false in
    room-length r

pub slice_bounds-copy_out-count : goal.slice_bounds-copy_out-count
slice_bounds-copy_out-count c =
    let r = as-room c.requires.p_lt_places c.requires.size_le_berth_size c.if-size-eq0.false in
    let wrote = c.write_at-start in room-start r wrote.ensures.value wrote.ensures.out_after

pub slice_bounds-copy_out-start : goal.slice_bounds-copy_out-start
slice_bounds-copy_out-start c =
    let r = as-room c.requires.p_lt_places c.requires.size_le_berth_size c.if-size-eq0.false in
    let wrote = c.write_at-start in
    search (rules, room-start r wrote.ensures.value wrote.ensures.out_after)

pub overflow_add-result : goal.overflow_add-result
overflow_add-result c =
    let r = as-room c.requires.p_lt_places c.requires.size_le_berth_size c.if-size-eq0.false in
    let wrote = c.write_at-start in
    omega (arith, held-end r wrote.ensures.value wrote.ensures.out_after c.from-count.ensures, c.requires.size_le_berth_size.1)

pub returns-clause-value : goal.returns-clause-value
returns-clause-value c = let r = as-room c.requires.p_lt_places c.requires.size_le_berth_size c.if-size-eq0.false in
    let wrote = c.write_at-start in
    let size = c.from-count in
    held-end r wrote.ensures.value wrote.ensures.out_after size.ensures

pub returns-clause-out_after : goal.returns-clause-out_after
returns-clause-out_after c = let r = as-room c.requires.p_lt_places c.requires.size_le_berth_size c.if-size-eq0.false in
    let wrote = c.write_at-start in
    let size = c.from-count in
    held-written r wrote.ensures.value wrote.ensures.out_after size.ensures c.copy_out.ensures
