-- Two answers that keep one promise are equal, and so are the two outputs.
use mathlib.Core.Path.{◌≡◌, sym, ap, ◌∙◌}
use mathlib.Core.List.{List}
use Prim.Native.Nat.{ℕ}
use Rattle.key.specs.declared.Key.{Key}
use Rattle.shelf.specs.Record.{Shelf}
use Rattle.shelf_ask.specs.Ask.{holding_of, copy, copy_of, whole_of, missing_of}
use Rattle.std.specs.Prelude.{Result}
use Rattle.std.specs.declared.option.Option.{Option}
use mathlib.Core.Bool.{Bool}
use Rattle.refusal.specs.declared.Refusal.{Refusal}

module _ (shelf : Shelf) (key : Key) where
  pub held-in-unique : (size : ℕ) (x y : Result ℕ Refusal) → x ≡ holding_of shelf size key → y ≡ holding_of shelf size key → x ≡ y
  held-in-unique size x y p q = p ∙ sym q

  module _ (store : List ℕ) where
    pub copy-section-unique : (n : ℕ) (out : List ℕ) (x y : Result ℕ Refusal) (u v : List ℕ)
        → copy x u ≡ copy_of shelf store key n out → copy y v ≡ copy_of shelf store key n out → (x ≡ y) × (u ≡ v)
    copy-section-unique n out x y u v p q = (ap (λ c. c.said) (p ∙ sym q), ap (λ c. c.out) (p ∙ sym q))

    pub complete-unique : (x y : Result Bool Refusal) → x ≡ whole_of shelf store key → y ≡ whole_of shelf store key → x ≡ y
    complete-unique x y p q = p ∙ sym q

    pub lowest-missing-unique : (x y : Result (Option ℕ) Refusal) → x ≡ missing_of shelf store key → y ≡ missing_of shelf store key → x ≡ y
    lowest-missing-unique x y p q = p ∙ sym q
