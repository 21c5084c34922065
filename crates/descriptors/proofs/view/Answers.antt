-- `descriptors::view` meets its contract: the descriptor that the step reads ends within the loop. Assumes nothing.
use native.Mathlib.Omega.{arith}
use borrow.Author.Rules.{rules}
use mathlib.Core.Path.{◌≡◌, sym}
use Rattle.std.specs.Prelude.{Ok, None}
use Rattle.descriptors.specs.Loop.{step_of, view_of}
use Rattle.descriptors.proofs.Steps.{reads-there, view-reads}
use Rattle.descriptors.proofs.view.Goals as goal
use Rattle.descriptors.proofs.view.Goals.{in_default-via-in-Ok+in_default, in_default-via-in_default}

pub slice_bounds-result-count : goal.slice_bounds-result-count
slice_bounds-result-count c = let h = reads-there _ _ _ (sym (rw c.in-Ok-Some.field-0-is at c.in-Ok-Some.ensures)) in rw h.here (omega arith)

pub slice_bounds-result-start : goal.slice_bounds-result-start
slice_bounds-result-start c = let h = reads-there _ _ _ (sym (rw c.in-Ok-Some.field-0-is at c.in-Ok-Some.ensures)) in rw h.here (omega arith)

pub slice_bounds-result-end-2 : goal.slice_bounds-result-end-2
slice_bounds-result-end-2 c = let h = reads-there _ _ _ (sym (rw c.in-Ok-Some.field-0-is at c.in-Ok-Some.ensures)) in rw h.here h.ends

pub returns : goal.returns
returns c = view-reads _ _ _ (sym (rw c.in-Ok-Some.field-0-is at c.in-Ok-Some.ensures))

pub returns-in_default : goal.returns-in_default
unfolding view_of
returns-in_default c = elim c.in_default.branch [ in_default-via-in-Ok+in_default w ↦ (let e : Ok None ≡ step_of c.args.bytes.now c.args.at = search rules in rw (← e)) | in_default-via-in_default w ↦ rw (← c.step_at.ensures, w.in_default.is) ]
