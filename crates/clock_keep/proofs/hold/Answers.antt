-- `hold` writes again what is held, and one more behind it.
use mathlib.Core.Path.{◌≡◌, refl}
use lib.ListN.{length, take, length-set}
use Rattle.clock_record.specs.Words.{word_at, helds_in}
use Rattle.clock_keep.proofs.Puts.{put-start, keep-step, put-done, hold-full, hold-words}
use Rattle.std.specs.Prelude.{if◌then◌else◌}
use mathlib.Core.Path.{◌∙◌}
use Prim.Native.Nat.{◌+◌, ◌*◌, ◌%◌}
use lib.Dec.{ltb}
use borrow.Author.Tests.{lt-ltb, le-ltb}
use Rattle.clock_keep.proofs.hold.Goals.{then-i-n, else-i-n, then-i-n-2, else-i-n-2}
use native.Mathlib.Omega.{arith}
use borrow.Author.Rules.{rules}
use Rattle.clock_keep.proofs.hold.Goals as goal

pub returns-then-n-ge-HELD : goal.returns-then-n-ge-HELD
returns-then-n-ge-HELD c = let g = c.args in hold-full g.words g.states g.h _ refl c.if-n-ge-HELD.true

pub loop-i-init : goal.loop-i-init
loop-i-init c = let g = c.args in let long : length g.words ≡ 67 = search rules in
    (long, long, put-start g.words g.words (take (word_at g.words 2) (helds_in g.words)))

pub loop-i-preserved : goal.loop-i-preserved
loop-i-preserved c = let o = c.loop-i in let g = c.args in let n = word_at g.words 2 in
    let time : c.if-i-n.next ≡ (if ltb o.i n then word_at g.words (3 + 2 * o.i) else 0) =
    elim c.if-i-n.branch [
      | then-i-n w ↦ w.next-is ∙ rw (lt-ltb _ _ w.if-i-n.true)
      | else-i-n w ↦ w.next-is ∙ rw (le-ltb _ _ w.if-i-n.false)
    ] in
    let second : c.if-i-n-2.next ≡ (if ltb o.i n then word_at g.words (4 + 2 * o.i) % 134217728 else 0) =
    elim c.if-i-n-2.branch [
      | then-i-n-2 w ↦ w.next-is ∙ rw (lt-ltb _ _ w.if-i-n-2.true)
      | else-i-n-2 w ↦ w.next-is ∙ rw (le-ltb _ _ w.if-i-n-2.false)
    ] in (
      o.invariant.0,
      simp length-set o.invariant.1,
      keep-step g.words o.next n o.i o.invariant.1 c.loop-i-test.true o.invariant.2 c.if-i-n.next c.if-i-n-2.next time second,
    )

pub returns : goal.returns
returns c = let o = c.loop-i in let g = c.args in let n = word_at g.words 2 in
    hold-words g.words g.states g.h n c.mark.result o.next o.invariant.0 refl c.if-n-ge-HELD.false c.mark.ensures
    (put-done g.words o.next (take n (helds_in g.words)) o.i o.invariant.1 o.invariant.2 (omega (arith, o.auto)))
