-- Two answers that keep one promise are equal.
--   feed_unique
use mathlib.Core.Path.{sym, ◌∙◌}
use mathlib.Core.List.{List}
use Prim.Native.Nat.{ℕ}
use Rattle.writer_file.specs.Theorems.{FeedUnique}
use Rattle.writer.specs.declared.Label.{Label}

pub feed_unique : (label : Label) (body old : List ℕ) → FeedUnique label body old
feed_unique label body old x y out out' p q = p ∙ sym q
