-- The number of an answer, by whether the record is spoiled; 17 comes before it and is decided by then.
use Rattle.std.specs.Prelude.{ℕ, Bool, if◌then◌else◌}
use Rattle.refusal.specs.Refusal.{number}
use Rattle.refusal.specs.declared.Refusal.TheVariants.{ShelfSpoiled}

-- 18 where it is, and what is otherwise answered, as it crosses the boundary, where it is not
unfoldable pub unless_spoiled : Bool → ℕ → ℕ
unless_spoiled spoiled answer = if spoiled then number ShelfSpoiled else answer
