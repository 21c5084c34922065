-- `Text::end_lines` meets its promise.
use mathlib.Core.Path.{sym, ◌∙◌}
use Rattle.file_listing.proofs.Whole.{complete, lacking}
use Rattle.file_listing.proofs.Text.end_lines.Goals as goal

pub returns-then-all_held : goal.returns-then-all_held
returns-then-all_held c = complete _ _ _ _ (sym c.all_held.ensures ∙ c.if-all_held.true) c.complete_line.ensures

pub returns-else-all_held : goal.returns-else-all_held
returns-else-all_held c = lacking _ _ _ _ (sym c.all_held.ensures ∙ c.if-all_held.false) c.missing_lines.ensures
