-- `apply` sets one application's state, or none where there is no such application.
use Rattle.clock_rule.proofs.Lists.{length-mapped}
use mathlib.Core.Path.{◌≡◌, sym}
use native.Mathlib.Omega.{arith}
use Prim.Native.Nat.{◌≤◌}
use lib.ListN.{length}
use lib.Seq.{set_out}
use Rattle.clock_rule.specs.Rule.{applied}
use borrow.Author.Rules.{rules}
use Rattle.clock_rule.proofs.apply.Goals as goal

pub returns-then-at-lt-APPLICATIONS : goal.returns-then-at-lt-APPLICATIONS
unfolding applied
returns-then-at-lt-APPLICATIONS c = rw (c.act.ensures, c.from-at.ensures)

pub returns-else-at-lt-APPLICATIONS : goal.returns-else-at-lt-APPLICATIONS
unfolding applied
returns-else-at-lt-APPLICATIONS c = let far : length c.args.apps ≤ c.args.application =
    (let long : length c.args.apps ≡ 8 = search (rules, length-mapped) in omega arith) in
    sym (set_out _ _ _ far)
