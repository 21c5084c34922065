-- `programme::number` meets its contract: what was read so far is the number in so many bytes.
use mathlib.Core.Path.{◌≡◌, refl, ap, ◌∙◌}
use native.Mathlib.Omega.{arith}
use Prim.Native.Nat.{◌<◌}
use borrow.Author.Rules.{rules}
use Rattle.base.specs.Octets.{Octets}
use Rattle.programme.specs.Field.{number}
use Rattle.programme.proofs.Numbers.{in-short, in_field, made-on, room}
use Rattle.programme.proofs.number.Goals as goal

pub returns-then-this-gt-MOST : goal.returns-then-this-gt-MOST
returns-then-this-gt-MOST g c = λ few. absurd (omega (arith, few, c.if-this-gt-MOST.true))

pub returns-then-field : goal.returns-then-field
returns-then-field g c = λ few. in-short _ _ c.if-field.true

pub loop-i-init : goal.loop-i-init
unfolding number
loop-i-init g c = refl

pub overflow_mul-high : goal.overflow_mul-high
overflow_mul-high g c =
    let octets : Octets c.args.field.now = λ k. omega (arith, c.type_inv.field k) in
    let few : c.loop-i.i < 8 = omega (arith, c.if-this-gt-MOST.false, c.loop-i-test.true) in
    let r = room c.args.field.now octets c.loop-i.i few in
    omega (arith, r, c.loop-i.invariant)

pub overflow_add-number : goal.overflow_add-number
overflow_add-number g c =
    let octets : Octets c.args.field.now = λ k. omega (arith, c.type_inv.field k) in
    let few : c.loop-i.i < 8 = omega (arith, c.if-this-gt-MOST.false, c.loop-i-test.true) in
    let r = room c.args.field.now octets c.loop-i.i few in
    omega (arith, r, c.loop-i.invariant, c.from.ensures, c.type_inv.field c.loop-i.i)

pub loop-i-preserved : goal.loop-i-preserved
loop-i-preserved g c = made-on c.args.field.now c.loop-i.i c.loop-i.invariant c.from.ensures

pub returns : goal.returns
returns g c =
    let all : c.loop-i.i ≡ g.row.N = search rules in
    λ few. c.loop-i.invariant ∙ ap (λ n. number c.args.field.now 0 n) all ∙ in_field g.row.N c.args.field.now c.if-field.false
