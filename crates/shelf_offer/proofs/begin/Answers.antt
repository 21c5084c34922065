-- `shelf_offer::begin` meets its promise: the header that is read again is the payload's.
use mathlib.Core.Path.{ap, ◌∙◌}
use Rattle.std.specs.Prelude.{is_ok}
use Rattle.section.proofs.Laws.{sound-facts}
use Rattle.shelf_offer.proofs.Left.{read_is, begun-words, begun-store}
use Rattle.shelf_offer.proofs.begin.Goals as goal

pub unwrap-header-requires : goal.unwrap-header-requires
unwrap-header-requires c = ap is_ok (c.read.ensures ∙ c.requires)

pub add-requires : goal.add-requires
add-requires c = (sound-facts _ _ c.requires).most

pub returns-clause-words_after : goal.returns-clause-words_after
returns-clause-words_after c =
    let a = c.args in
    let e = read_is a.words.now a.store.now a.payload.now c.read.ensures c.unwrap-header.ensures c.requires in
    begun-words a.words.now a.store.now a.payload.now a.p e c.put_head.ensures c.from.ensures c.add.ensures.words_after

pub returns-clause-store_after : goal.returns-clause-store_after
returns-clause-store_after c =
    let a = c.args in
    let e = read_is a.words.now a.store.now a.payload.now c.read.ensures c.unwrap-header.ensures c.requires in
    begun-store a.words.now a.store.now a.payload.now a.p a.going e c.wipe_where.ensures c.from.ensures c.add.ensures.store_after
