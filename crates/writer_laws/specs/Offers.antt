-- Document 02, request 1: offered to a fresh shelf in any order, the sections make a complete table whose joined bodies are
-- the given body. The histories that this speaks of, and the joined bodies. `Call` and `copy_after` are those of demand 3.
use Rattle.std.specs.Prelude.{ℕ, zero, suc, ◌≤◌, take, drop, Result, Ok, Err}
use mathlib.Core.List.{List, [], ◌∷◌, ◌++◌, Memᴰ}
use Rattle.refusal.specs.declared.Refusal.{Refusal}
use Rattle.key.specs.declared.Key.{Key}
use Rattle.shelf_ask.specs.Ask.{Copy}
use Rattle.shelf_laws.specs.History.{Call, copy_after}
use Rattle.writer.specs.Writer.{written}
pub use Rattle.writer.specs.Theorems.{label_key}
use Rattle.writer.specs.declared.Label.{Label}

-- the history in which the sections with these numbers are offered, one after the other
abbrev pub offers_of : Label → List ℕ → List ℕ → List Call
offers_of label body [] = []
offers_of label body (k ∷ ks) = Call.offer (written label body k) ∷ offers_of label body ks

-- numbers from 0 to the last in any order, as often as one likes, each at least once; `List.Memᴰ k ks`: k is in ks
pub record AnyOrder (last : ℕ) (ks : List ℕ) : Type 0 where
  pub known : (k : ℕ) → Memᴰ k ks → k ≤ last
  pub each : (k : ℕ) → k ≤ last → Memᴰ k ks

-- the body of a section that is handed out, past the header's eight bytes; none where the copy is refused, which the laws
-- rule out by themselves (`hands_out`)
abbrev pub body_in : Result ℕ Refusal → List ℕ → List ℕ
body_in (Ok n) out = drop 8 (take n out)
body_in (Err r) out = []

abbrev pub body_of : Copy → List ℕ
body_of c = body_in c.said c.out

-- the bodies of sections 0 to n - 1, as the shelf hands them out after a history into an output of 1,024 bytes or more, joined
abbrev pub bodies_after : List Call → Key → List ℕ → ℕ → List ℕ
bodies_after h key out zero = []
bodies_after h key out (suc n) = bodies_after h key out n ++ body_of (copy_after h key n out)
