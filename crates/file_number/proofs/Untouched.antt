-- A refused call leaves the output as it was.
use mathlib.Core.Path.{◌≡◌, refl}
use mathlib.Core.List.{List, [], ◌∷◌, ◌++◌}
use Prim.Native.Nat.{ℕ, ◌<◌}
use native.Mathlib.Omega.{arith}
use lib.Dec.{ltb}
use lib.ListN.{length, drop}
use Rattle.base.specs.Choice.{◌if◌}
use Rattle.base.proofs.Tables.{among}
use Rattle.file_number.specs.Number.{spelt, Writing, writing, written_of}
use Rattle.file_number.specs.Answer.{spelled_told}
use Rattle.std.specs.Prelude.{Ok, Err}
use Rattle.refusal.specs.declared.Refusal.TheVariants.{OutputTooSmall}

pub write-number-untouched : (n : ℕ) (out : List ℕ) → 0 < (spelled_told (written_of n out).said).number → (written_of n out).out ≡ out
unfolding written_of
write-number-untouched n out =
    among (λ r. writing (Err r) out)
    (λ (w : Writing). 0 < (spelled_told w.said).number → w.out ≡ out)
    (OutputTooSmall if ltb (length out) (length (spelt n)) ∷ [])
    (writing (Ok (length (spelt n))) (spelt n ++ drop (length (spelt n)) out))
    (λ _. refl, tt)
    (λ h. absurd (omega arith))
