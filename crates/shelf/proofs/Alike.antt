-- The search for a key goes by the numbers of the heads first.
--   others-place        of a table of another id it ends there
--   nowhere, is_said, unsaid     a key that no four numbers say is held nowhere
use mathlib.Core.Path.{◌≡◌, sym, ap, ◌∙◌}
use mathlib.Core.Bool.{Bool, true, false}
use mathlib.Core.List.{List}
use Prim.Native.Nat.{ℕ, ◌+◌, ◌*◌, ◌<◌, ◌≤◌}
use native.Mathlib.Omega.{arith}
use lib.Dec.{eqb, ltb}
use lib.ListN.{length, get_or}
use borrow.Author.Tests.{eqb-true, eqb-false, ltb-true, ltb-false}
use Rattle.base.specs.Below.{lowest}
use Rattle.base.proofs.Below.{lowest-below, lowest-all, lowest-holds, lowest-found}
use Rattle.base.proofs.Cases.{by, unlike}
use Rattle.key.specs.declared.Key.{Key}
use Rattle.key.specs.Key.{nrt_it, key_from, same_key}
use Rattle.key.proofs.Keys.{Proper, same_key_lem, key-itself, from_proper}
use Rattle.shelf.specs.Record.{place_at, has_key, place_of}
use Rattle.shelf.specs.Layout.{key_number, number_for, key_at, table_in, taken_in, place_in, shelf_in}
use Rattle.shelf.specs.Calls.{place_among}
use Rattle.shelf.proofs.Find.{lowest-at}
use Rattle.shelf.proofs.Numbers.{place_at_lem, among-key, number-other, other-same}

module _ (words : List ℕ) (fits : length words ≡ 96) (short : (p : ℕ) → get_or words (64 + 4 * p) 0 < 65536) (key : Key) (narrow : key.table < 256)
    {n p : ℕ} (number : n ≡ number_for key) (first : p ≡ lowest 4 (λ k. eqb (key_number words k) n)) (most : p ≤ 4) where
  abbrev has : ℕ → Bool
  has k = has_key (place_at (shelf_in words) k) key

  abbrev alike : ℕ → Bool
  alike k = eqb (key_number words k) n

  not-here : (k : ℕ) → k < 4 → alike k ≡ false → has k ≡ false
  not-here k h e =
      rw (place_at_lem words k h)
      (sym (number-other words k fits h key narrow (short k) (sym (among-key words k fits h)) number (eqb-false _ _ e)))

  alike-below : lowest p has ≡ p
  alike-below = lowest-all has p (λ k h. not-here k (omega arith) (lowest-below alike 4 k (rw (sym first) h)))

  here : p < 4 → ¬ (key.table ≡ nrt_it) → Proper key → has p ≡ true
  here h d q =
      let e : key_number words p ≡ n = eqb-true _ _ (ap alike first ∙ lowest-holds alike 4 (rw (sym first) h)) in
      rw (place_at_lem words p h) (other-same words p fits h key narrow (short p) (sym (among-key words p fits h)) number e d q)

  pub others-place : ¬ (key.table ≡ nrt_it) → Proper key → p ≡ place_of (shelf_in words) key
  unfolding place_of
  others-place d q =
      by (ltb p 4)
      (λ t. let h : p < 4 = ltb-true _ _ t in sym (lowest-found has 4 p h alike-below (here h d q)))
      (λ f. let e : p ≡ 4 = let l : 4 ≤ p = ltb-false _ _ f in omega arith in e ∙ sym (lowest-at 4 has e alike-below))

-- the key in a place of the numbers is one that four numbers say
module _ (words : List ℕ) (key : Key) (improper : ¬ (Proper key)) where
  none_has : (k : ℕ) → has_key (place_in words k) key ≡ false
  unfolding has_key place_in table_in key_at
  none_has k =
      by (taken_in words k)
      (λ t.
      rw t
      (by (same_key (key_at words k) key)
      (λ s. absurd (improper (rw (sym (same_key_lem (key_at words k) key s)) (from_proper _ _ _ _))))
      (λ s. s)))
      (λ t. rw t)

  pub nowhere : place_among words key ≡ 4
  unfolding place_among place_of
  nowhere =
      by (eqb (length words) 96)
      (λ t. rw t (lowest-all (λ k. has_key (place_at (shelf_in words) k) key) 4 (λ k h. rw (place_at_lem words k h) (none_has k))))
      (λ f. rw f)

-- what four numbers say, held against the key that they are of
module _ (key : Key) {said : Key} {r : Bool} (e : said ≡ key_from key.table key.extension key.service key.start) (f : r ≡ same_key said key) where
  pub is_said : r ≡ true → Proper key
  is_said t = sym e ∙ same_key_lem said key (sym f ∙ t)

  pub unsaid : r ≡ false → ¬ (Proper key)
  unsaid t q = unlike (sym (key-itself key) ∙ ap (λ k. same_key k key) (sym (e ∙ q)) ∙ sym f ∙ t)
