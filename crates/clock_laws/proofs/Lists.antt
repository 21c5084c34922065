-- Laws on lists.
--   any_append, any-which, any_at          one that passes
--   all_left, all-only, all-rearranged     what each of a list has
--   only-only                              those that pass two tests, where the one follows from the other
--   rearranged-refl, rearranged-sym, rearranged-back, to_front, rearranged-append, split
--   any-rearranged, only-rearranged, map-rearranged, length-rearranged, all-rearranged
use mathlib.Core.Path.{◌≡◌, refl, sym, ap, ◌∙◌}
use mathlib.Core.Bool.{Bool, true, false, not, ◌||◌}
use mathlib.Core.List.{List, [], ◌∷◌, ◌++◌, map}
use Prim.Native.Nat.{ℕ, zero, suc, ◌<◌}
use native.Mathlib.Omega.{arith}
use lib.ListN.{length, get_or}
use Rattle.base.proofs.Cases.{by, unlike}
use Rattle.clock_record.specs.Lists.{any_of, only_of, All, Rearranged}

module _ {A : Type 0} (p : A → Bool) where
  pub any_append : (l r : List A) → any_of p l ≡ false → any_of p r ≡ false → any_of p (l ++ r) ≡ false
  unfolding any_of
  any_append [] r e f = f
  any_append (x ∷ l) r e f = by (p x) (λ t. absurd (unlike (rw t at e))) (λ t. rw t (any_append l r (rw t at e) f))

  pub any_left : (l r : List A) → any_of p l ≡ true → any_of p (l ++ r) ≡ true
  unfolding any_of
  any_left [] r e = absurd (unlike (sym e))
  any_left (x ∷ l) r e = by (p x) (λ t. rw t) (λ t. rw t (any_left l r (rw t at e)))

  pub any-right : (l r : List A) → any_of p r ≡ true → any_of p (l ++ r) ≡ true
  unfolding any_of
  any-right [] r e = e
  any-right (x ∷ l) r e = by (p x) (λ t. rw t) (λ t. rw t (any-right l r e))

  pub any-which : (d : A) (l : List A) → any_of p l ≡ true → (i : ℕ) × (i < length l) × (p (get_or l i d) ≡ true)
  unfolding any_of
  any-which d [] e = absurd (unlike (sym e))
  any-which d (x ∷ l) e =
      by (p x)
      (λ t. (0, omega arith, t))
      (λ t. let w = any-which d l (rw t at e) in (suc w.0, omega arith, w.2))

  pub any_at : (d : A) (l : List A) (i : ℕ) → i < length l → p (get_or l i d) ≡ true → any_of p l ≡ true
  unfolding any_of
  any_at d [] i h t = absurd (omega arith)
  any_at d (x ∷ l) zero h t = rw t
  any_at d (x ∷ l) (suc i) h t = by (p x) (λ q. rw q) (λ q. rw q (any_at d l i (omega arith) t))

  pub all-only : (l : List A) → All (λ x. p x ≡ true) (only_of p l)
  unfolding only_of
  all-only [] = tt
  all-only (x ∷ l) = by (p x) (λ t. rw t (t, all-only l)) (λ t. rw t (all-only l))

  -- what passes is among those that pass a weaker test
  pub only-only : (q : A → Bool) → ((x : A) → q x ≡ false → p x ≡ false) → (l : List A) → only_of p (only_of q l) ≡ only_of p l
  unfolding only_of
  only-only q f [] = refl
  only-only q f (x ∷ l) =
      let ih = only-only q f l in
      by (q x)
      (λ t. by (p x) (λ u. rw (t, u) (ap (◌∷◌ x) ih)) (λ u. rw (t, u) ih))
      (λ t. rw (t, f x t) ih)

  pub any-rearranged : {l r : List A} → Rearranged l r → any_of p l ≡ any_of p r
  unfolding any_of
  any-rearranged Rearranged.none = refl
  any-rearranged (Rearranged.keep {x = x} s) = ap (λ (t : Bool). p x || t) (any-rearranged s)
  any-rearranged (Rearranged.swap {x = x} {y = y} {l = l}) =
      by (p x) (λ t. by (p y) (λ u. rw (t, u)) (λ u. rw (t, u))) (λ t. by (p y) (λ u. rw (t, u)) (λ u. rw (t, u)))
  any-rearranged (Rearranged.next s t) = any-rearranged s ∙ any-rearranged t

  pub only-rearranged : {l r : List A} → Rearranged l r → Rearranged (only_of p l) (only_of p r)
  unfolding only_of
  only-rearranged Rearranged.none = Rearranged.none
  only-rearranged (Rearranged.keep {x = x} s) = let ih = only-rearranged s in by (p x) (λ t. rw t (Rearranged.keep ih)) (λ t. rw t ih)
  only-rearranged (Rearranged.swap {x = x} {y = y} {l = l}) =
      by (p x)
      (λ t. by (p y) (λ u. rw (t, u) Rearranged.swap) (λ u. rw (t, u) (rearranged-same (x ∷ only_of p l))))
      (λ t. by (p y) (λ u. rw (t, u) (rearranged-same (y ∷ only_of p l))) (λ u. rw (t, u) (rearranged-same (only_of p l))))
    where
      rearranged-same : (l : List A) → Rearranged l l
      rearranged-same [] = Rearranged.none
      rearranged-same (x ∷ l) = Rearranged.keep (rearranged-same l)
  only-rearranged (Rearranged.next s t) = Rearranged.next (only-rearranged s) (only-rearranged t)

module _ {A : Type 0} where
  pub rearranged-refl : (l : List A) → Rearranged l l
  rearranged-refl [] = Rearranged.none
  rearranged-refl (x ∷ l) = Rearranged.keep (rearranged-refl l)

  pub rearranged-sym : {l r : List A} → Rearranged l r → Rearranged r l
  rearranged-sym Rearranged.none = Rearranged.none
  rearranged-sym (Rearranged.keep s) = Rearranged.keep (rearranged-sym s)
  rearranged-sym Rearranged.swap = Rearranged.swap
  rearranged-sym (Rearranged.next s t) = Rearranged.next (rearranged-sym t) (rearranged-sym s)

  pub length-rearranged : {l r : List A} → Rearranged l r → length l ≡ length r
  length-rearranged Rearranged.none = refl
  length-rearranged (Rearranged.keep s) = ap suc (length-rearranged s)
  length-rearranged Rearranged.swap = refl
  length-rearranged (Rearranged.next s t) = length-rearranged s ∙ length-rearranged t

  pub all-rearranged : (P : A → Type 0) {l r : List A} → Rearranged l r → All P l → All P r
  all-rearranged P Rearranged.none a = tt
  all-rearranged P (Rearranged.keep s) a = (a.0, all-rearranged P s a.1)
  all-rearranged P Rearranged.swap a = (a.1.0, (a.0, a.1.1))
  all-rearranged P (Rearranged.next s t) a = all-rearranged P t (all-rearranged P s a)

  -- one in the middle may stand in front
  pub to_front : (l : List A) (x : A) (r : List A) → Rearranged (l ++ (x ∷ r)) (x ∷ (l ++ r))
  to_front [] x r = rearranged-refl (x ∷ r)
  to_front (y ∷ l) x r = Rearranged.next (Rearranged.keep (to_front l x r)) Rearranged.swap

  pub front-append : (l : List A) {r s : List A} → Rearranged r s → Rearranged (l ++ r) (l ++ s)
  front-append [] t = t
  front-append (x ∷ l) t = Rearranged.keep (front-append l t)

  pub back-append : {l m : List A} (r : List A) → Rearranged l m → Rearranged (l ++ r) (m ++ r)
  back-append r Rearranged.none = rearranged-refl r
  back-append r (Rearranged.keep s) = Rearranged.keep (back-append r s)
  back-append r Rearranged.swap = Rearranged.swap
  back-append r (Rearranged.next s t) = Rearranged.next (back-append r s) (back-append r t)

  -- those that pass and those that do not are all
  pub split : (p : A → Bool) (l : List A) → Rearranged l (only_of p l ++ only_of (λ x. not (p x)) l)
  unfolding only_of
  split p [] = Rearranged.none
  split p (x ∷ l) =
      let ih = split p l in
      by (p x)
      (λ t. rw t (Rearranged.keep ih))
      (λ t. rw t (Rearranged.next (Rearranged.keep ih) (rearranged-sym (to_front (only_of p l) x (only_of (λ y. not (p y)) l)))))

  pub all_left : (P : A → Type 0) (l r : List A) → All P (l ++ r) → All P l
  all_left P [] r a = tt
  all_left P (x ∷ l) r a = (a.0, all_left P l r a.1)

pub map-rearranged : {A B : Type 0} (f : A → B) {l r : List A} → Rearranged l r → Rearranged (map f l) (map f r)
map-rearranged f Rearranged.none = Rearranged.none
map-rearranged f (Rearranged.keep s) = Rearranged.keep (map-rearranged f s)
map-rearranged f Rearranged.swap = Rearranged.swap
map-rearranged f (Rearranged.next s t) = Rearranged.next (map-rearranged f s) (map-rearranged f t)
