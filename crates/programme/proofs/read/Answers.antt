-- `programme::read` meets its promise: in each arm the count is the one that `count_items` promises.
use borrow.Author.Rules.{rules}
use mathlib.Core.Path.{refl, sym, ◌∙◌}
use native.Mathlib.Omega.{arith}
use Rattle.refusal.proofs.Numbers.{handed_on}
use Rattle.base.specs.Octets.{Octets}
use Rattle.programme.proofs.Numbers.{below, part-number}
use Rattle.programme.proofs.Counts.{no_items, items_of, items-long, read_made}
use Rattle.programme.proofs.read.Goals as goal

pub returns-in_err-items : goal.returns-in_err-items
returns-in_err-items c = handed_on c.from_residual.result c.from_residual.ensures.1
    ∙ sym (no_items c.args.payload.now _ (search rules))

pub slice_bounds-number-end : goal.slice_bounds-number-end
slice_bounds-number-end c = omega (arith, items-long (items_of c.args.payload.now c.in_ok-items.items (search rules)))

pub slice_bounds-number-end-2 : goal.slice_bounds-number-end-2
slice_bounds-number-end-2 c = omega (arith, items-long (items_of c.args.payload.now c.in_ok-items.items (search rules)))

pub slice_bounds-number-end-3 : goal.slice_bounds-number-end-3
slice_bounds-number-end-3 c = omega (arith, items-long (items_of c.args.payload.now c.in_ok-items.items (search rules)))

pub overflow_cast-service : goal.overflow_cast-service
overflow_cast-service c =
    let octets : Octets c.args.payload.now = λ k. omega (arith, c.type_inv.payload k) in
    let fits = below c.args.payload.now 8 octets 2 in
    let l = items-long (items_of c.args.payload.now c.in_ok-items.items (search rules)) in
    let is = c.number-service.ensures (omega arith) ∙ part-number c.args.payload.now 8 2 2 refl (omega (arith, l)) in
    omega (arith, fits, is)

pub overflow_cast-start : goal.overflow_cast-start
overflow_cast-start c =
    let octets : Octets c.args.payload.now = λ k. omega (arith, c.type_inv.payload k) in
    let fits = below c.args.payload.now 10 octets 4 in
    let l = items-long (items_of c.args.payload.now c.in_ok-items.items (search rules)) in
    let is = c.number-start.ensures (omega arith) ∙ part-number c.args.payload.now 10 4 4 refl (omega (arith, l)) in
    omega (arith, fits, is)

pub returns : goal.returns
returns c = let r = items_of c.args.payload.now c.in_ok-items.items (search rules) in
    let s = c.args.payload.now in
    let l = items-long r in
    read_made r (c.number-service.ensures (omega arith) ∙ part-number s 8 2 2 refl (omega (arith, l))) (c.number-start.ensures (omega arith) ∙ part-number s 10 4 4 refl (omega (arith, l))) (c.number.ensures (omega arith) ∙ part-number s 14 2 2 refl (omega (arith, l)))
