-- `writer::fill` meets its promise: the header and the body are written one after the other, and nothing is left over.
use borrow.Author.Rules.{rules}
use mathlib.Core.Path.{ap, ◌∙◌}
use mathlib.Core.List.{◌++◌}
use lib.ListN.{length}
use Rattle.writer.specs.Writer.{section_of}
use Rattle.writer.proofs.Laws.{joined}
use Rattle.writer.proofs.fill.Goals as goal

pub returns : goal.returns
unfolding section_of
returns c =
    let e = c.header-head.ensures in
    joined c.header-head.result c.args.body.now c.args.out.now _ _ (ap length e) (search rules) c.copy_from_slice.ensures.after c.copy_from_slice-2.ensures.after
    ∙ ap (λ h. h ++ c.args.body.now) e
