-- Where a member of a list stands.
--   mem-front, mem-last      in the front of two lists, and at the end of one
--   mem-append               in one of two
--   mem-chosen               among the numbers that are picked
use Rattle.std.specs.Prelude.{if◌then◌else◌}
use mathlib.Core.Path.{◌≡◌, refl}
use mathlib.Core.Bool.{Bool, true, false}
use mathlib.Core.Logic.{◌⊎◌, ⊎_elim, inl, inr}
use mathlib.Core.List.Memᴰ
use mathlib.Core.List.{List, [], ◌∷◌, ◌++◌, Memᴰ}
use Prim.Native.Nat.{ℕ, zero, suc}
use Rattle.file.specs.Layout.{chosen}

module _ {x : List ℕ} where
  pub mem-front : (a b : List (List ℕ)) → Memᴰ x a → Memᴰ x (a ++ b)
  mem-front [] b m = absurd (Memᴰ.not-nil m)
  mem-front (y ∷ a) b m =
      ⊎_elim (λ e. Memᴰ.head e) (λ t. Memᴰ.tail (mem-front a b t)) (Memᴰ.cases_cons m)

  pub mem-last : (a : List (List ℕ)) → Memᴰ x (a ++ (x ∷ []))
  mem-last [] = Memᴰ.head refl
  mem-last (y ∷ a) = Memᴰ.tail (mem-last a)

  pub mem-append : (a b : List (List ℕ)) → Memᴰ x (a ++ b) → Memᴰ x a ⊎ Memᴰ x b
  mem-append [] b m = inr m
  mem-append (y ∷ a) b m =
      ⊎_elim (λ e. inl (Memᴰ.head e))
      (λ t. ⊎_elim (λ i. inl (Memᴰ.tail i)) (λ i. inr i) (mem-append a b t))
      (Memᴰ.cases_cons m)

  mem-only : {y : List ℕ} → Memᴰ x (y ∷ []) → x ≡ y
  mem-only m = ⊎_elim (λ e. e) (λ t. absurd (Memᴰ.not-nil t)) (Memᴰ.cases_cons m)

  module _ (picks : ℕ → Bool) (each : ℕ → List ℕ) where
    one-chosen : (n : ℕ) (b : Bool) → Memᴰ x (if b then each n ∷ [] else []) → (b ≡ true) × (x ≡ each n)
    one-chosen n true m = (refl, mem-only m)
    one-chosen n false m = absurd (Memᴰ.not-nil m)

    pub mem-chosen : (n : ℕ) → Memᴰ x (chosen n picks each) → (k : ℕ) × (picks k ≡ true) × (x ≡ each k)
    unfolding chosen
    mem-chosen zero m = absurd (Memᴰ.not-nil m)
    mem-chosen (suc n) m =
        ⊎_elim (mem-chosen n) (λ i. let w = one-chosen n (picks n) i in (n, w.0, w.1))
        (mem-append (chosen n picks each) (if picks n then each n ∷ [] else []) m)
