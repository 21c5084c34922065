-- The order of a move.
--   sort-ordered       the sorted list is in order
--   sort-rearranged    it has the same members
--   the-one-order      and it is the one list that is in order and has them
--   rearranged-sort    so the order in which they are held never shows
use mathlib.Core.Path.{◌≡◌, refl, sym, ap, ◌∙◌}
use mathlib.Core.Bool.{Bool, true, false}
use mathlib.Core.List.{List, [], ◌∷◌}
use Rattle.base.proofs.Cases.{by, unlike}
use Rattle.clock_activation.specs.declared.Activation.{Activation}
use Rattle.clock_activation.specs.Activation.{alike, before}
use Rattle.clock_record.specs.Lists.{All, Rearranged, only_of}
use Rattle.clock_due.specs.Order.{Ordered, insert_of, sort_of}
use Rattle.clock_laws.specs.Distinct.{Distinct}
use Rattle.clock_record.proofs.Lists.{all_map}
use Rattle.clock_laws.proofs.Lists.{all-rearranged, rearranged-refl, rearranged-sym}
use Rattle.clock_laws.proofs.Alike.{alike-comm, before-asym, before-trans, before-total, before-unlike}

-- two that are not alike may be put in their places in either order
pub insert_comm : (x y : Activation) → alike x y ≡ false → (l : List Activation) → insert_of x (insert_of y l) ≡ insert_of y (insert_of x l)
unfolding insert_of
insert_comm x y n [] =
    by (before x y)
    (λ t. rw (t, before-asym x y t))
    (λ t. rw (t, before-total x y n t))
insert_comm x y n (z ∷ l) =
    let ih = insert_comm x y n l in
    by (before y z)
    (λ p.
    by (before x z)
    (λ q.
    by (before x y)
    (λ t. simp (p, q, t, before-asym x y t))
    (λ t. simp (p, q, t, before-total x y n t)))
    (λ q.
    by (before x y)
    (λ t. absurd (unlike (sym (before-trans x y z t p) ∙ q)))
    (λ t. simp (p, q, t))))
    (λ p.
    by (before x z)
    (λ q.
    by (before y x)
    (λ t. absurd (unlike (sym (before-trans y x z t q) ∙ p)))
    (λ t. simp (p, q, t)))
    (λ q. simp (p, q) (ap (◌∷◌ z) ih)))

-- no two alike, in any order
distinct-swap : (x y : Activation) (l : List Activation) → Distinct (x ∷ y ∷ l) → Distinct (y ∷ x ∷ l)
distinct-swap x y l d = ((alike-comm y x ∙ d.0.0, d.1.0), (d.0.1, d.1.1))

pub distinct-rearranged : {l r : List Activation} → Rearranged l r → Distinct l → Distinct r
distinct-rearranged Rearranged.none d = tt
distinct-rearranged (Rearranged.keep {x = x} s) d = (all-rearranged (λ b. alike x b ≡ false) s d.0, distinct-rearranged s d.1)
distinct-rearranged (Rearranged.swap {x = x} {y = y} {l = l}) d = distinct-swap x y l d
distinct-rearranged (Rearranged.next s t) d = distinct-rearranged t (distinct-rearranged s d)

pub distinct-only : (p : Activation → Bool) (l : List Activation) → Distinct l → Distinct (only_of p l)
unfolding only_of
distinct-only p [] d = tt
distinct-only p (x ∷ l) d =
    let ih = distinct-only p l d.1 in
    by (p x) (λ t. rw t (apart-only l d.0, ih)) (λ t. rw t ih)
  where
    apart-only : (l : List Activation) → All (λ b. alike x b ≡ false) l → All (λ b. alike x b ≡ false) (only_of p l)
    apart-only [] a = tt
    apart-only (y ∷ l) a = let ih = apart-only l a.1 in by (p y) (λ t. rw t (a.0, ih)) (λ t. rw t ih)

-- the order in which they are held never shows
pub rearranged-sort : {l r : List Activation} → Rearranged l r → Distinct l → sort_of l ≡ sort_of r
unfolding sort_of
rearranged-sort Rearranged.none d = refl
rearranged-sort (Rearranged.keep {x = x} s) d = ap (insert_of x) (rearranged-sort s d.1)
rearranged-sort (Rearranged.swap {x = x} {y = y} {l = l}) d = insert_comm x y d.0.0 (sort_of l)
rearranged-sort (Rearranged.next s t) d = rearranged-sort s d ∙ rearranged-sort t (distinct-rearranged s d)

pub insert-rearranged : (x : Activation) (l : List Activation) → Rearranged (insert_of x l) (x ∷ l)
unfolding insert_of
insert-rearranged x [] = rearranged-refl (x ∷ [])
insert-rearranged x (y ∷ l) =
    let ih = insert-rearranged x l in
    by (before x y)
    (λ t. rw t (rearranged-refl (x ∷ y ∷ l)))
    (λ t. rw t (Rearranged.next (Rearranged.keep ih) Rearranged.swap))

pub sort-rearranged : (l : List Activation) → Rearranged (sort_of l) l
unfolding sort_of
sort-rearranged [] = Rearranged.none
sort-rearranged (x ∷ l) = Rearranged.next (insert-rearranged x (sort_of l)) (Rearranged.keep (sort-rearranged l))

insert-ordered : (x : Activation) (l : List Activation) → Ordered l → All (λ b. alike x b ≡ false) l → Ordered (insert_of x l)
unfolding insert_of
insert-ordered x [] o a = (tt, tt)
insert-ordered x (y ∷ l) o a =
    let ih = insert-ordered x l o.1 a.1 in
    by (before x y)
    (λ t. rw t ((t, all_map (λ b. before y b ≡ true) (λ b. before x b ≡ true) (λ b u. before-trans x y b t u) l o.0), o))
    (λ t.
    rw t
    (all-rearranged (λ b. before y b ≡ true) (rearranged-sym (insert-rearranged x l)) (before-total x y a.0 t, o.0), ih))

pub sort-ordered : (l : List Activation) → Distinct l → Ordered (sort_of l)
unfolding sort_of
sort-ordered [] d = tt
sort-ordered (x ∷ l) d =
    insert-ordered x (sort_of l) (sort-ordered l d.1)
    (all-rearranged (λ b. alike x b ≡ false) (rearranged-sym (sort-rearranged l)) d.0)

pub ordered-distinct : (l : List Activation) → Ordered l → Distinct l
ordered-distinct [] o = tt
ordered-distinct (x ∷ l) o =
    (all_map (λ b. before x b ≡ true) (λ b. alike x b ≡ false) (λ b t. before-unlike x b t) l o.0, ordered-distinct l o.1)

insert-first : (x : Activation) (l : List Activation) → All (λ b. before x b ≡ true) l → insert_of x l ≡ x ∷ l
unfolding insert_of
insert-first x [] a = refl
insert-first x (y ∷ l) a = rw a.0

pub sort-same : (l : List Activation) → Ordered l → sort_of l ≡ l
unfolding sort_of
sort-same [] o = refl
sort-same (x ∷ l) o = ap (insert_of x) (sort-same l o.1) ∙ insert-first x l o.0

-- a list in order with the members of another is the other sorted: there is no second one
pub the-one-order : {l m : List Activation} → Ordered l → Rearranged l m → l ≡ sort_of m
the-one-order {l} {m} o s = sym (sort-same l o) ∙ rearranged-sort s (ordered-distinct l o)
