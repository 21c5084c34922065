-- Two answers, each with the numbers and the store that it leaves, that keep the promise of `offer_code` are equal.
use mathlib.Core.Path.{◌≡◌, sym, ap, ◌∙◌}
use mathlib.Core.List.{List}
use Prim.Native.Nat.{ℕ}
use Rattle.answers.specs.Answers.{lent}
use Rattle.shelf_offer.specs.Answer.{offer_lent}

pub unique :
    (words store payload : List ℕ)
    (x y : ℕ)
    (held kept left stored : List ℕ)
    → lent x held left ≡ offer_lent words store payload
    → lent y kept stored ≡ offer_lent words store payload
    → (x ≡ y) × (held ≡ kept) × (left ≡ stored)
unique words store payload x y held kept left stored p q =
    let e : lent x held left ≡ lent y kept stored = p ∙ sym q in
    (ap (λ z. z.code) e, ap (λ z. z.words) e, ap (λ z. z.store) e)
