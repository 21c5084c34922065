-- Two answers that keep one promise are equal, and so are the two outputs.
use mathlib.Core.Path.{◌≡◌, sym, ap, ◌∙◌}
use mathlib.Core.List.{List}
use Prim.Native.Nat.{ℕ}
use Rattle.key.specs.declared.Key.{Key}
use Rattle.shelf.specs.Record.{Shelf}
use Rattle.shelf_save.specs.Save.{Save, save, save_of}
use Rattle.std.specs.Prelude.{Result}
use Rattle.refusal.specs.declared.Refusal.{Refusal}

pub save-table-unique : (shelf : Shelf) (store : List ℕ) (key : Key) (out : List ℕ) (x y : Result ℕ Refusal) (u v : List ℕ)
    → save x u ≡ save_of shelf store key out → save y v ≡ save_of shelf store key out → (x ≡ y) × (u ≡ v)
save-table-unique shelf store key out x y u v p q =
    (ap (λ (s : Save). s.said) (p ∙ sym q), ap (λ (s : Save). s.out) (p ∙ sym q))
