-- `programmes::main` is safe: what was read lies within the buffer, and what was listed within the text.
use mathlib.Core.Path.{sym}
use lib.Seq.{length-take-le}
use Rattle.programmes.proofs.Reading.{shown-within}
use Rattle.programmes.proofs.main.Goals as goal

pub slice_bounds-text-end : goal.slice_bounds-text-end
slice_bounds-text-end c = shown-within _ _ _ _ _ c.list_whole.ensures c.in-Ok-list_whole.is

pub slice_bounds-write_all-end : goal.slice_bounds-write_all-end
slice_bounds-write_all-end c = sym (length-take-le _ _ (shown-within _ _ _ _ _ c.list_whole.ensures c.in-Ok-list_whole.is))
