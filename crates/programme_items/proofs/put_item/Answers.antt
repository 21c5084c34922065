-- `programme_items::put_item` meets its contract: ten stores are the item's ten numbers.
use mathlib.Core.Path.{◌≡◌, ◌∙◌}
use Prim.Native.Nat.{◌+◌, ◌-◌}
use native.Mathlib.Omega.{arith}
use Rattle.programme.proofs.Numbers.{part-number}
use Rattle.programme_items.proofs.Places.{parts-there}
use Rattle.programme_items.proofs.Puts.{item-made}
use lib.ListN.{length-set}
use Rattle.programme_items.proofs.put_item.Goals as goal

pub put_included-requires : goal.put_included-requires
put_included-requires c = let t = (parts-there _ _ _ c.requires.parts_value) in
    let l = t.fits in
    let e = t.flags-are in
    (rw e (omega (arith, l)), simp length-set (omega (arith, c.requires.bytes_len_bound.1)))

pub returns : goal.returns
returns c =
    let a = c.args in
    let t = parts-there _ _ _ c.requires.parts_value in
    let m : a.at + 4 - a.at ≡ 4 = omega arith in
    rw c.from-2.ensures
    (item-made t a.fields.now a.to (c.number.ensures (omega arith) ∙ part-number _ _ _ 4 m (omega (arith, t.fits))) (rw c.from.ensures at c.put_included.ensures))
