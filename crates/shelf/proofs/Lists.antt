-- Laws on a list that is given by its entries.
use mathlib.Core.Path.{◌≡◌, refl, sym, ap, ◌∙◌}
use mathlib.Core.List.{List}
use mathlib.Core.Logic.{⊎_elim}
use Prim.Native.Nat.{ℕ, zero, suc, ◌+◌, ◌<◌}
use native.Mathlib.Nat.{not-suc-le-zero, le_of_suc-le-suc}
use native.Mathlib.Omega.{arith}
use lib.ListN.{length, get_or, set}
use lib.Seq.{ext_get_or, get_or-set_same, get_or-set_other}
use Rattle.base.proofs.Cases.{same_or}
use Rattle.shelf.specs.Layout.{listed}

pub length-listed : (n : ℕ) (f : ℕ → ℕ) → length (listed n f) ≡ n
unfolding listed
length-listed zero f = refl
length-listed (suc n) f = ap suc (length-listed n (λ k. f (suc k)))

pub get_d-listed : (n : ℕ) (f : ℕ → ℕ) (k : ℕ) → k < n → get_or (listed n f) k 0 ≡ f k
unfolding listed
get_d-listed zero f k h = absurd (not-suc-le-zero h)
get_d-listed (suc n) f zero h = refl
get_d-listed (suc n) f (suc k) h = get_d-listed n (λ k. f (suc k)) k (le_of_suc-le-suc h)

-- the first i entries of l are f's
abbrev pub Filled : List ℕ → ℕ → (ℕ → ℕ) → Type 0
Filled l i f = (k : ℕ) → k < i → get_or l k 0 ≡ f k

pub filled_more : (l : List ℕ) (i : ℕ) (f : ℕ → ℕ) (x : ℕ) → i < length l → Filled l i f → x ≡ f i → Filled (set l i x) (i + 1) f
filled_more l i f x s h e k b =
    ⊎_elim
    (λ (q : k ≡ i). rw (q, get_or-set_same l i x 0 s) e)
    (λ d. get_or-set_other l i k x 0 d ∙ h k (omega (arith, d)))
    (same_or k i)

pub filled-all : (l : List ℕ) (n i : ℕ) (f : ℕ → ℕ) → i ≡ n → length l ≡ n → Filled l i f → l ≡ listed n f
filled-all l n i f e s h =
    ext_get_or 0 l (listed n f) (s ∙ sym (length-listed n f)) (λ k b. h k (omega arith) ∙ sym (get_d-listed n f k (omega arith)))

pub listed_same : (n : ℕ) (f g : ℕ → ℕ) → ((k : ℕ) → k < n → f k ≡ g k) → listed n f ≡ listed n g
listed_same n f g e =
    ext_get_or 0 (listed n f) (listed n g) (length-listed n f ∙ sym (length-listed n g))
    (λ k h. let l : k < n = omega (arith, length-listed n f) in get_d-listed n f k l ∙ e k l ∙ sym (get_d-listed n g k l))
