-- `shelf_save::write_sections` meets its promise: after each turn the held sections passed are listed.
use mathlib.Core.Path.{◌∙◌}
use borrow.Author.Rules.{rules}
use Rattle.shelf_save.proofs.Listing.{as-ready, small, none-at, none-listed, room_next, one_at, one-listed}
use Rattle.shelf_save.proofs.write_sections.Goals as goal

pub loop-n-init : goal.loop-n-init
loop-n-init c = let r = as-ready c.requires.p_lt_places c.requires.berthed c.requires.lengths_in_bounds in (search rules, search rules, search rules, none-at r, none-listed r)

pub write_held-at-requires-clause-size_le_berth_size : goal.write_held-at-requires-clause-size_le_berth_size
write_held-at-requires-clause-size_le_berth_size c = let at = c.loop-n in
    let r = as-ready c.requires.p_lt_places c.requires.berthed c.requires.lengths_in_bounds in
    (small r.stands _ (search rules), room_next r at.invariant.3 (search rules) at.invariant.2)

pub loop-n-preserved : goal.loop-n-preserved
loop-n-preserved c = let at = c.loop-n in
    let wrote = c.write_held-at in
    let r = as-ready c.requires.p_lt_places c.requires.berthed c.requires.lengths_in_bounds in (
      search rules,
      at.invariant.1,
      wrote.auto.out ∙ at.invariant.2,
      one_at r at.invariant.3 (search rules) wrote.ensures.value,
      one-listed r at.invariant.3 (search rules) at.invariant.4 wrote.ensures.out_after,
    )
