-- `shelf_save::save_place` meets its promise.
use Rattle.shelf_save.proofs.Saving.{as-sized, saved-15, room-form, room-count, ready-sections, saved-done}
use Rattle.shelf_save.proofs.save_place.Goals as goal

pub returns-then-out-size : goal.returns-then-out-size
returns-then-out-size c =
    let s = as-sized c.requires.p_lt_places c.requires.berthed c.sizes_of-sizes.ensures.count_value c.sizes_of-sizes.ensures.count_le_sections.0 in
    saved-15 s _ c.if-out-size.true

pub write_at-counted-requires : goal.write_at-counted-requires
write_at-counted-requires c =
    let s = as-sized c.requires.p_lt_places c.requires.berthed c.sizes_of-sizes.ensures.count_value c.sizes_of-sizes.ensures.count_le_sections.0 in
    room-form s c.args.out.now c.if-out-size.false

pub write_at-from-requires : goal.write_at-from-requires
write_at-from-requires c =
    let s = as-sized c.requires.p_lt_places c.requires.berthed c.sizes_of-sizes.ensures.count_value c.sizes_of-sizes.ensures.count_le_sections.0 in
    let form = c.write_at-counted in room-count s _ c.if-out-size.false form.ensures.value form.ensures.out_after

pub write_sections-requires-clause-lengths_in_bounds : goal.write_sections-requires-clause-lengths_in_bounds
write_sections-requires-clause-lengths_in_bounds c =
    let s = as-sized c.requires.p_lt_places c.requires.berthed c.sizes_of-sizes.ensures.count_value c.sizes_of-sizes.ensures.count_le_sections.0 in
    let form = c.write_at-counted in
    let count = c.write_at-from in
    let r = ready-sections s _ c.if-out-size.false form.ensures.value form.ensures.out_after count.ensures.value count.ensures.out_after in
    r.fits

pub returns : goal.returns
returns c =
    let s = as-sized c.requires.p_lt_places c.requires.berthed c.sizes_of-sizes.ensures.count_value c.sizes_of-sizes.ensures.count_le_sections.0 in
    let form = c.write_at-counted in
    let count = c.write_at-from in
    saved-done s _ c.if-out-size.false form.ensures.value form.ensures.out_after count.ensures.value count.ensures.out_after
    c.write_sections.ensures
