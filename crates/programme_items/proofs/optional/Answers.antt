-- `programme_items::optional` meets its contract: where the flag is 1 the field is read in the bytes from its place on.
use mathlib.Core.Path.{◌≡◌, sym, ap, ◌∙◌}
use Prim.Native.Nat.{◌+◌, ◌-◌, ◌/◌, ◌%◌}
use native.Mathlib.Omega.{arith}
use mathlib.Core.Bool.{true}
use lib.Dec.{eqb}
use Rattle.programme.proofs.Numbers.{part-number}
use Rattle.programme_items.proofs.optional.Goals as goal

pub returns-clause-value_value : goal.returns-clause-value_value
returns-clause-value_value g c =
    let set : eqb (c.args.flags / c.args.flag % 2) 1 ≡ true = sym c.is_set.ensures ∙ c.if-not-is_set.false in
    let at = c.args.at in
    let long : at + g.row.N - at ≡ g.row.N = omega arith in
    rw set (ap (λ n. n % c.args.values) (c.number.ensures (omega (arith, c.requires)) ∙ part-number c.args.bytes.now at (at + g.row.N - at) g.row.N long (let h = c.requires.3 in rw set at h)))
