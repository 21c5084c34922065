-- Two answers that keep one promise are equal.
--   count_unique, write_unique
use mathlib.Core.Path.{sym, ◌∙◌}
use mathlib.Core.List.{List}
use Prim.Native.Nat.{ℕ}
use Rattle.writer.specs.Theorems.{CountUnique, WriteUnique}
use Rattle.writer.specs.declared.Label.{Label}

pub count_unique : (table n : ℕ) → CountUnique table n
count_unique table n x y p q = p ∙ sym q

pub write_unique : (label : Label) (body : List ℕ) (k : ℕ) (old : List ℕ) → WriteUnique label body k old
write_unique label body k old x y out out' p q = p ∙ sym q
