-- `shelf_load::load_table` meets its promise. That the key is held nowhere is found among what is known, whatever its test is called.
use native.Mathlib.Omega.{arith}
use mathlib.Core.Path.{refl}
use Prim.Native.Nat.{◌<◌}
use Rattle.shelf_load.proofs.Answers.{table-13, table-9, table_done}
use borrow.Author.Rules.{rules}
use Rattle.shelf_load.proofs.load_table.Goals as goal

pub returns-then-place_of-ne-PLACES : goal.returns-then-place_of-ne-PLACES
returns-then-place_of-ne-PLACES c = table-13 _ _ _ (search rules) _ _ _ refl c.place_of.ensures.0 c.if-place_of-ne-PLACES.true

pub returns-then-p-eq-PLACES : goal.returns-then-p-eq-PLACES
returns-then-p-eq-PLACES c = table-9 _ _ _ (search rules) _ _ _ refl c.place_of.ensures.0 (search rules) _ c.free_of-p.ensures.0 c.if-p-eq-PLACES.true

pub returns : goal.returns
returns c = let a = c.args in
    let free : c.free_of-p.result < 4 = omega (arith, c.free_of-p.ensures.1, c.if-p-eq-PLACES.false) in
    table_done _ _ _ c.requires.words_len.0 _ _ _ refl c.place_of.ensures.0 (search rules) _ c.free_of-p.ensures.0 c.if-p-eq-PLACES.false free
    c.store_each.ensures c.put_head.ensures c.hold_each.ensures
