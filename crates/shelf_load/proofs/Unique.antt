-- Two answers that keep the promise of `load_file` are equal, and so are the numbers and the stores that they leave.
use mathlib.Core.Path.{◌≡◌, sym, ap, ◌∙◌}
use mathlib.Core.List.{List}
use Prim.Native.Nat.{ℕ}
use Rattle.std.specs.Prelude.{Result}
use Rattle.refusal.specs.declared.Refusal.{Refusal}
use Rattle.shelf_load.specs.On.{leaving, load_on}

pub load-file-unique :
    (words store file : List ℕ)
    (x y : Result (Unit {0}) Refusal)
    (held kept left stored : List ℕ)
    → leaving x held left ≡ load_on words store file
    → leaving y kept stored ≡ load_on words store file
    → (x ≡ y) × (held ≡ kept) × (left ≡ stored)
load-file-unique words store file x y held kept left stored p q =
    let e : leaving x held left ≡ leaving y kept stored = p ∙ sym q in
    (ap (λ z. z.said) e, ap (λ z. z.words) e, ap (λ z. z.store) e)
