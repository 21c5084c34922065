-- Laws on lists.
--   all_map, all_append, all-at, all_take, only-all     what each of a list has
--   map-append              what is made of two lists, one after the other
--   only-fewer              those that pass are no more than all
use mathlib.Core.Path.{◌≡◌, refl, ap}
use mathlib.Core.Bool.{Bool}
use mathlib.Core.List.{List, [], ◌∷◌, ◌++◌, map}
use Prim.Native.Nat.{ℕ, zero, suc, ◌≤◌}
use native.Mathlib.Omega.{arith}
use lib.ListN.{length, take, get_or}
use Rattle.base.proofs.Cases.{by}
use Rattle.clock_record.specs.Lists.{All, only_of}

module _ {A : Type 0} where
  pub all_map : (P Q : A → Type 0) → ((x : A) → P x → Q x) → (l : List A) → All P l → All Q l
  all_map P Q f [] a = tt
  all_map P Q f (x ∷ l) a = (f x a.0, all_map P Q f l a.1)

  pub all_append : (P : A → Type 0) (l r : List A) → All P l → All P r → All P (l ++ r)
  all_append P [] r a b = b
  all_append P (x ∷ l) r a b = (a.0, all_append P l r a.1 b)

module _ {A : Type 0} (P : A → Type 0) where
  pub all-at : (l : List A) (d : A) → P d → All P l → (i : ℕ) → P (get_or l i d)
  all-at [] d p a i = p
  all-at (x ∷ l) d p a zero = a.0
  all-at (x ∷ l) d p a (suc i) = all-at l d p a.1 i

  pub all_take : (n : ℕ) (l : List A) → All P l → All P (take n l)
  all_take zero l a = tt
  all_take (suc n) [] a = tt
  all_take (suc n) (x ∷ l) a = (a.0, all_take n l a.1)

  pub only-all : (p : A → Bool) (l : List A) → All P l → All P (only_of p l)
  unfolding only_of
  only-all p [] a = tt
  only-all p (x ∷ l) a = by (p x) (λ t. rw t (a.0, only-all p l a.1)) λ f. rw f (only-all p l a.1)

pub map-append : {A B : Type 0} (f : A → B) (l r : List A) → map f (l ++ r) ≡ map f l ++ map f r
map-append f [] r = refl
map-append f (x ∷ l) r = ap (◌∷◌ (f x)) (map-append f l r)

-- those that pass are no more than all
pub only-fewer : {A : Type 0} (p : A → Bool) (l : List A) → length (only_of p l) ≤ length l
unfolding only_of
only-fewer p [] = omega arith
only-fewer p (x ∷ l) = let ih = only-fewer p l in by (p x) (λ t. rw t (omega arith)) λ f. rw f (omega arith)
