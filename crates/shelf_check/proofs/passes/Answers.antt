-- `shelf_check::passes` meets its promise: of 96 numbers both parts of the pass say yes, and another count does not pass.
use mathlib.Core.Path.{sym}
use Rattle.shelf_check.proofs.Quick.{both-pass}
use Rattle.shelf_check.proofs.Unless.{record-so}
use Rattle.shelf_check.proofs.passes.Goals as goal

pub returns : goal.returns
returns c = λ e. sym (record-so c.in-Ok.ensures.1 (sym (both-pass _ c.heads_pass.ensures c.lengths_pass.ensures e)))
