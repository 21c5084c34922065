-- `keep`: the places that are written are what is kept of those passed.
use mathlib.Core.Path.{◌≡◌, refl, ap, ◌∙◌}
use mathlib.Core.Bool.{true, false}
use Prim.Native.Nat.{◌+◌}
use lib.ListN.{length, take, get_or, length-set}
use Rattle.base.proofs.Tests.{told}
use Rattle.clock_activation.specs.Activation.{nobody}
use Rattle.clock_record.specs.Words.{word_at, helds_in}
use Rattle.clock_record.proofs.Scan.{take_within}
use Rattle.clock_record.proofs.Back.{places}
use Rattle.clock_keep.specs.Keep.{kept_of, moved, forgotten}
use Rattle.clock_keep.proofs.Laws.{keep-none, none_kept, keep-less, keep-put, keep-many, keep-words}
use Rattle.clock_keep.proofs.keep.Goals.{then-not-is_forgotten, else-not-is_forgotten}
use native.Mathlib.Omega.{arith}
use Rattle.clock_keep.proofs.keep.Goals as goal

pub loop-i-init : goal.loop-i-init
loop-i-init c = let g = c.args in
    (omega (arith, c.within-n.ensures), omega arith, refl, none_kept g.to, keep-none g.to)

pub loop-i-preserved : goal.loop-i-preserved
loop-i-preserved c = let o = c.loop-i in let g = c.args in let w = g.words.now in let long = places w in
    let h : c.after-h.result ≡ moved g.to (get_or (helds_in w) o.i nobody) = c.after-h.ensures ∙ ap (moved g.to) c.held_at.ensures in
    elim c.if-not-is_forgotten.branch [
      | then-not-is_forgotten t ↦
          let f : forgotten g.to (moved g.to (get_or (helds_in w) o.i nobody)) ≡ false =
          rw h at (told c.is_forgotten.ensures t.if-not-is_forgotten.true) in (
            o.invariant.0,
            omega (arith, o.invariant, t.kept-is),
            ap length t.next-is ∙ simp length-set o.invariant.2,
            t.kept-is ∙ keep-many g.to (helds_in w) o.i (omega (arith, o.invariant)) o.next o.kept (omega (arith, o.invariant)) o.invariant.3 o.invariant.4 f,
            t.next-is
                ∙ keep-put g.to (helds_in w) o.i (omega (arith, o.invariant)) o.next o.kept (omega (arith, o.invariant)) o.invariant.3 o.invariant.4 f
                c.after-h.result t.mark.result h t.mark.ensures,
          )
      | else-not-is_forgotten t ↦
          let f : forgotten g.to (moved g.to (get_or (helds_in w) o.i nobody)) ≡ true =
          rw h at (told c.is_forgotten.ensures t.if-not-is_forgotten.false) in
          let less : kept_of g.to (take (o.i + 1) (helds_in w)) ≡ kept_of g.to (take o.i (helds_in w)) =
          keep-less g.to (helds_in w) o.i (omega (arith, o.invariant)) f in (
            o.invariant.0,
            omega (arith, o.invariant, t.kept-is),
            ap length t.next-is ∙ o.invariant.2,
            rw less (t.kept-is ∙ o.invariant.3),
            rw less (t.next-is ∙ o.invariant.4),
          )
    ]

pub returns : goal.returns
returns c = let o = c.loop-i in let g = c.args in let w = g.words.now in
    let z : o.i ≡ c.within-n.result = omega (arith, o.auto) in
    let all : take o.i (helds_in w) ≡ take (word_at w 2) (helds_in w) =
    rw (z, c.within-n.ensures) (take_within (word_at w 2) (helds_in w) 32 (places w)) in
    rw (← all) (keep-words g.to g.states o.kept o.next (kept_of g.to (take o.i (helds_in w))) o.invariant.4 o.invariant.3)
