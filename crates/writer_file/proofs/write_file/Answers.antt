-- `writer_file::write_file` meets its promise: after each turn the front of the file stands, up to one section more.
use borrow.Author.Rules.{rules}
use mathlib.Core.Path.{◌≡◌}
use Prim.Native.Nat.{ℕ}
use native.Mathlib.Omega.{arith}
use Rattle.std.specs.Prelude.{Result, Ok}
use Rattle.refusal.specs.declared.Refusal.{Refusal}
use Rattle.writer_file.proofs.Filing.{Begun, begins-at, begins, rest-room, next-at, next-front, ends}
use Rattle.writer_file.proofs.write_file.Goals as goal

-- the number that an answer gives
given : {a b : ℕ} → ◌≡◌ {A = Result ℕ Refusal} (Ok a) (Ok b) → a ≡ b
given e = cc

pub loop-k-init : goal.loop-k-init
loop-k-init c =
    let r : Begun c.args.label c.args.body.now c.args.count c.args.out.now =
    record { fits = c.requires.not_label_table.1; counted = c.requires.not_label_table.3; room = c.requires.body_in_bounds } in
    (search rules, begins-at r, begins r)

pub write_one-requires-clause-k_in_bounds : goal.write_one-requires-clause-k_in_bounds
write_one-requires-clause-k_in_bounds c =
    let r : Begun c.args.label c.args.body.now c.args.count c.args.out.now =
    record { fits = c.requires.not_label_table.1; counted = c.requires.not_label_table.3; room = c.requires.body_in_bounds } in
    rest-room r (search rules) c.loop-k.invariant.1 c.loop-k.invariant.2

pub loop-k-preserved : goal.loop-k-preserved
loop-k-preserved c =
    let r : Begun c.args.label c.args.body.now c.args.count c.args.out.now =
    record { fits = c.requires.not_label_table.1; counted = c.requires.not_label_table.3; room = c.requires.body_in_bounds } in (
      search rules,
      next-at r (search rules) c.loop-k.invariant.1 c.loop-k.invariant.2 (given (search rules)),
      next-front r (search rules) c.loop-k.invariant.1 c.loop-k.invariant.2 c.write_one.ensures.rest_after,
    )

pub returns-clause-out_after : goal.returns-clause-out_after
returns-clause-out_after c =
    let r : Begun c.args.label c.args.body.now c.args.count c.args.out.now =
    record { fits = c.requires.not_label_table.1; counted = c.requires.not_label_table.3; room = c.requires.body_in_bounds } in
    let e : c.loop-k.k ≡ c.args.count = omega arith in
    ends r e c.loop-k.invariant.2
