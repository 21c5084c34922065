-- `write_codes` numbers one more at a time.
use mathlib.Core.Path.{◌≡◌, subst}
use lib.ListN.{length-set}
use Rattle.clock_activation.specs.declared.Held.{Held}
use Rattle.clock_activation.specs.Code.{Coded}
use Rattle.clock_record.specs.Words.{helds_in}
use Rattle.clock_record.proofs.Scan.{numbered-none, numbered_more}
use Rattle.clock_record.proofs.Back.{places}
use native.Mathlib.Omega.{arith}
use borrow.Author.Rules.{rules}
use Rattle.clock_record.proofs.write_codes.Goals as goal

pub loop-i-init : goal.loop-i-init
loop-i-init c = (search rules, numbered-none)

pub loop-i-preserved : goal.loop-i-preserved
loop-i-preserved c = let o = c.loop-i in let g = c.args in let w = g.words.now in
    let long = places w in let p = c.requires in (
      simp length-set o.invariant.0,
      numbered_more (helds_in w) o.codes o.i c.code.result (omega (arith, p)) (omega (arith, o.invariant.0, p)) o.invariant.1
          (subst (λ (h : Held). Coded h.activation c.code.result) c.held_at.ensures c.code.ensures),
    )

pub returns : goal.returns
returns c = let o = c.loop-i in let e : o.i ≡ c.args.n = omega (arith, o.auto) in rw e at o.invariant.1
