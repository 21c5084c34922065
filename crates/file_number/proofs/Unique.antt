-- Two answers that meet one promise are equal.
use mathlib.Core.Path.{◌≡◌, sym, ap, ◌∙◌}
use mathlib.Core.List.{List}
use Prim.Native.Nat.{ℕ}
use Rattle.file_number.specs.Number.{number_at, writing, written_of}
use Rattle.std.specs.Prelude.{Result}
use Rattle.refusal.specs.declared.Refusal.{Refusal}
use Rattle.file_number.specs.declared.Number.{Number}

pub read-number-unique : (file : List ℕ) (at : ℕ) (r q : Result Number Refusal) → r ≡ number_at file at → q ≡ number_at file at → r ≡ q
read-number-unique file at r q e f = e ∙ sym f

pub write-number-unique : (n : ℕ) (out : List ℕ) (r q : Result ℕ Refusal) (after after' : List ℕ)
    → writing r after ≡ written_of n out → writing q after' ≡ written_of n out → (r ≡ q) × (after ≡ after')
write-number-unique n out r q after after' e f = (ap (λ w. w.said) (e ∙ sym f), ap (λ w. w.out) (e ∙ sym f))
