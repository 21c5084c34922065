-- What a free place happens to hold never matters: records that are equal (`Same` of the shelf) get the same answers.
--   by-holding                           a proof by the two answers of `holding_of`
--   holding-same, asked-same             where the table is held, and what is held of it
--   copy-same, whole_same, missing-same  the answers
use Rattle.std.specs.Prelude.{if◌then◌else◌, Some, None, Result, Ok, Err}
use Rattle.refusal.specs.declared.Refusal.{Refusal}
use mathlib.Core.Path.{◌≡◌, refl, sym, ap, ◌∙◌}
use mathlib.Core.List.{List}
use Prim.Native.Nat.{ℕ}
use lib.ListN.{length}
use Rattle.base.specs.Choice.{first}
use Rattle.shelf.specs.Record.{Same, place_at}
use Rattle.key.specs.declared.Key.{Key}
use Rattle.shelf.specs.Record.{Shelf}
use Rattle.shelf.proofs.Equal.{same-spoiled, same_place}
use Rattle.shelf_ask.specs.Ask.{holding_of, copy_of, whole_of, missing_of, complete, lowest_missing, uncopied, copy_from, copy}
use Rattle.shelf_ask.proofs.Held.{held, copy-refused, copy-held, whole-refused, whole-held, missing-refused, missing-held}

-- by where a table is held
pub by-holding : (h : Result ℕ Refusal) {P : Type 0} → ((p : ℕ) → h ≡ Ok p → P) → ((r : Refusal) → h ≡ Err r → P) → P
by-holding (Ok p) f g = f p refl
by-holding (Err r) f g = g r refl

module _ (a b : Shelf) (s : Same a b) where
  module _ (key : Key) where
    pub holding-same : (size : ℕ) → holding_of a size key ≡ holding_of b size key
    unfolding holding_of
    holding-same size = rw (same-spoiled a b s, same_place a b s key)

    -- the table that is asked for
    pub asked-same : (size p : ℕ) → holding_of a size key ≡ Ok p → place_at a p ≡ place_at b p
    asked-same size p e = let w = held a size key p e in s.equal p w.place w.taken

    module _ (store : List ℕ) where
      there : (h : Result ℕ Refusal) → holding_of a (length store) key ≡ h → holding_of b (length store) key ≡ h
      there h e = sym (holding-same (length store)) ∙ e

      pub copy-same : (n : ℕ) (out : List ℕ) → copy_of a store key n out ≡ copy_of b store key n out
      copy-same n out =
          by-holding (holding_of a (length store) key)
          (λ p e.
          copy-held a store key p e n out
          ∙ ap (λ x. first (λ k. copy (Err k) out) (uncopied x n out) (copy_from x store p n out)) (asked-same (length store) p e)
          ∙ sym (copy-held b store key p (there _ e) n out))
          (λ k e. copy-refused a store key k e n out ∙ sym (copy-refused b store key k (there _ e) n out))

      pub whole_same : whole_of a store key ≡ whole_of b store key
      whole_same =
          by-holding (holding_of a (length store) key)
          (λ p e.
          whole-held a store key p e
          ∙ ap (λ x. Ok (complete x)) (asked-same (length store) p e)
          ∙ sym (whole-held b store key p (there _ e)))
          (λ k e. whole-refused a store key k e ∙ sym (whole-refused b store key k (there _ e)))

      pub missing-same : missing_of a store key ≡ missing_of b store key
      missing-same =
          by-holding (holding_of a (length store) key)
          (λ p e.
          missing-held a store key p e
          ∙ ap (λ x. Ok (if complete x then None else Some (lowest_missing x))) (asked-same (length store) p e)
          ∙ sym (missing-held b store key p (there _ e)))
          (λ k e. missing-refused a store key k e ∙ sym (missing-refused b store key k (there _ e)))
