-- `shelf_save::write_at` meets its promise: there is room for the number, so that it is written.
use mathlib.Core.Path.{ap}
use Prim.Native.Nat.{◌+◌}
use native.Mathlib.Omega.{arith}
use Rattle.shelf_save.proofs.Writing.{wrote_ok, wrote_count, wrote-number}
use Rattle.shelf_save.proofs.write_at.Goals as goal

pub unwrap-requires : goal.unwrap-requires
unwrap-requires c = wrote_ok c.args.n c.args.at c.args.out.now c.requires c.write_number-written.ensures

pub overflow_add-result : goal.overflow_add-result
overflow_add-result c = omega (arith, wrote_count c.args.n c.args.at c.args.out.now c.requires c.write_number-written.ensures c.unwrap.ensures, c.requires)

pub returns-clause-value : goal.returns-clause-value
returns-clause-value c = ap (λ k. c.args.at + k) (wrote_count c.args.n c.args.at c.args.out.now c.requires c.write_number-written.ensures c.unwrap.ensures)

pub returns-clause-out_after : goal.returns-clause-out_after
returns-clause-out_after c = wrote-number c.args.n c.args.at c.args.out.now c.requires c.write_number-written.ensures
