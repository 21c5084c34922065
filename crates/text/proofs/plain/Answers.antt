-- `text::plain` meets its promise.
use mathlib.Core.Path.{refl}
use Rattle.text.specs.Words.{plain}
use Rattle.text.proofs.plain.Goals as goal

pub returns : goal.returns
unfolding plain
returns c = refl
