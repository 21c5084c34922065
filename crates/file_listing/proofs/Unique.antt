-- Two answers that meet one promise are equal.
use mathlib.Core.Path.{◌≡◌, sym, ap, ◌∙◌}
use mathlib.Core.List.{List}
use Prim.Native.Nat.{ℕ}
use Rattle.file_listing.specs.Listing.{listing, list_of}
use Rattle.std.specs.Prelude.{Result}
use Rattle.refusal.specs.declared.Refusal.{Refusal}

pub list-file-unique : (file out : List ℕ) (r q : Result ℕ Refusal) (after after' : List ℕ)
    → listing r after ≡ list_of file out → listing q after' ≡ list_of file out → (r ≡ q) × (after ≡ after')
list-file-unique file out r q after after' e f = (ap (λ l. l.said) (e ∙ sym f), ap (λ l. l.out) (e ∙ sym f))
