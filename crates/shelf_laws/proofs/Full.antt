-- The shelf has no free place exactly when four tables with different keys are held.
--   crowded               of n + 1 numbers below n two are equal
--   none-full, full-none
use Rattle.std.specs.Prelude.{if◌then◌else◌}
use mathlib.Core.Path.{◌≡◌, refl, sym, ap, ◌∙◌}
use mathlib.Core.Bool.{true}
use mathlib.Core.List.{List}
use Prim.Native.Nat.{ℕ, zero, suc, ◌<◌, ◌≤◌}
use native.Mathlib.Omega.{arith}
use lib.Dec.{eqb, ltb}
use borrow.Author.Tests.{eqb-true, eqb-false, lt-ltb, ltb-true, ltb-false}
use Rattle.base.proofs.Cases.{by, unlike}
use Rattle.berth.specs.Berth.{places}
use Rattle.shelf.specs.Record.{Shelf, place_at, has_key, place_of, free_of}
use Rattle.shelf_laws.specs.History.{Call, after_all, log_of}
use Rattle.shelf_laws.specs.Log.{Full}
use Rattle.shelf_laws.proofs.Places.{has-key, its_key, is-taken, held_at, place-of, free-le, free-at, none_free}
use Rattle.shelf_laws.proofs.Histories.{holds-all}
use Rattle.shelf_laws.proofs.Held.{held_place, place-held}

-- f, with its last number where it has n
abbrev moved : ℕ → (ℕ → ℕ) → ℕ → ℕ
moved n f i = if eqb (f i) n then f (suc n) else f i

crowded : (n : ℕ) (f : ℕ → ℕ) → ((i : ℕ) → i ≤ n → f i < n) → ((i j : ℕ) → i < j → j ≤ n → f i ≡ f j → ⊥) → ⊥
crowded zero f below apart = let z : f 0 < 0 = below 0 (omega arith) in omega arith
crowded (suc n) f below apart = crowded n (moved n f) less other
  where
    less : (i : ℕ) → i ≤ n → moved n f i < n
    less i h =
        let a : f i < suc n = below i (omega arith) in
        let b : f (suc n) < suc n = below (suc n) (omega arith) in
        by (eqb (f i) n)
        (λ t.
        let e : f i ≡ n = eqb-true _ _ t in
        let ne : f (suc n) ≡ n → ⊥ = λ z. apart i (suc n) (omega arith) (omega arith) (e ∙ sym z) in
        rw t (omega arith))
        (λ t. let ne : f i ≡ n → ⊥ = eqb-false _ _ t in rw t (omega arith))

    other : (i j : ℕ) → i < j → j ≤ n → moved n f i ≡ moved n f j → ⊥
    other i j l h e =
        by (eqb (f i) n)
        (λ t.
        by (eqb (f j) n)
        (λ u. apart i j l (omega arith) (eqb-true _ _ t ∙ sym (eqb-true _ _ u)))
        (λ u. apart j (suc n) (omega arith) (omega arith) (sym (rw (t, u) at e))))
        (λ t.
        by (eqb (f j) n)
        (λ u. apart i (suc n) (omega arith) (omega arith) (rw (t, u) at e))
        (λ u. apart i j l (omega arith) (rw (t, u) at e)))

module _ (h : List Call) where
  abbrev shelf : Shelf
  shelf = (after_all h).shelf

  pub none-full : free_of shelf ≡ places → Full (log_of h)
  none-full e =
      record {
        key = λ n. (place_at shelf n).key;
        held = λ n i. place-held h (place_at shelf n).key (rw (its n i) i);
        different = λ m n l i q.
            let z : m ≡ n = sym (its m (omega arith)) ∙ ap (place_of shelf) q ∙ its n i in omega arith;
      }
    where
      its : (n : ℕ) → n < places → place_of shelf (place_at shelf n).key ≡ n
      its n i =
          place-of shelf (place_at shelf n).key (holds-all h).good.unspoiled n i
          (has-key (place_at shelf n) (place_at shelf n).key (none_free shelf e n i) refl)

  -- the places of the four, and a free one, would be five numbers below 4
  pub full-none : Full (log_of h) → free_of shelf ≡ places
  full-none full =
      by (ltb (free_of shelf) places)
      (λ t. absurd (crowded places five (below (ltb-true _ _ t)) (apart (ltb-true _ _ t))))
      (λ t.
      let a : places ≤ free_of shelf = ltb-false _ _ t in
      let b : free_of shelf ≤ places = free-le shelf in
      omega arith)
    where
      five : ℕ → ℕ
      five n = if ltb n places then place_of shelf (full.key n) else free_of shelf

      its : (n : ℕ) → n < places → has_key (place_at shelf (place_of shelf (full.key n))) (full.key n) ≡ true
      its n i = held_at shelf (full.key n) (held_place h (full.key n) (full.held n i))

      below : free_of shelf < places → (n : ℕ) → n ≤ places → five n < places
      below f n i =
          by (ltb n places)
          (λ t. rw t (held_place h (full.key n) (full.held n (ltb-true _ _ t))))
          (λ t. rw t f)

      apart : free_of shelf < places → (m n : ℕ) → m < n → n ≤ places → five m ≡ five n → ⊥
      apart f m n l i e =
          by (ltb n places)
          (λ t.
          let j : n < places = ltb-true _ _ t in
          let q : place_of shelf (full.key m) ≡ place_of shelf (full.key n) = rw (lt-ltb m places (omega arith), t) at e in
          full.different m n l j
          (sym (its_key (place_at shelf (place_of shelf (full.key m))) (full.key m) (its m (omega arith)))
          ∙ ap (λ p. (place_at shelf p).key) q
          ∙ its_key (place_at shelf (place_of shelf (full.key n))) (full.key n) (its n j)))
          (λ t.
          let q : place_of shelf (full.key m) ≡ free_of shelf = rw (lt-ltb m places (omega arith), t) at e in
          unlike
          (sym (is-taken (place_at shelf (place_of shelf (full.key m))) (full.key m) (its m (omega arith)))
          ∙ ap (λ p. (place_at shelf p).taken) q
          ∙ free-at shelf f))
