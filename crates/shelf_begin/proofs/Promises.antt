-- What beginning a shelf promises.
--   refused-17         17 is given exactly when the lent store has not 65,536 bytes
--   whole-begun        a whole store is zeroed
--   always-fresh       the record is fresh in either case
--   refused-untouched  a refused call leaves the store as it was
use mathlib.Core.Path.{◌≡◌, refl}
use mathlib.Core.List.{List, [], ◌∷◌}
use mathlib.Core.Logic.Iff
use mathlib.Core.Logic.{◌↔◌, true-and}
use Prim.Native.Nat.{ℕ}
use native.Mathlib.Omega.{arith}
use lib.ListN.{length}
use Rattle.base.specs.Bytes.{zeros}
use Rattle.base.specs.Tables.{Rule, ◌says◌, Agree}
use Rattle.base.proofs.Tables.{words, given, silent, among}
use Rattle.berth.specs.Berth.{store_size}
use Rattle.shelf.specs.Record.{fresh}
use Rattle.std.specs.Prelude.{Ok, Err}
use Rattle.refusal.specs.Refusal.{number_of}
use Rattle.refusal.specs.declared.Refusal.{Refusal}
use Rattle.shelf_begin.specs.Begin.{After, faults, begin_of}

module _ (store : List ℕ) where
  abbrev no : Refusal → After
  no r = record { said = Err r; shelf = fresh; store = store }

  abbrev done : After
  done = record { said = Ok tt; shelf = fresh; store = zeros store_size }

  -- a lent store not 65,536 bytes
  abbrev pub table : List Rule
  table = 17 says (¬ (length store ≡ store_size)) ∷ []

  decided : Agree (faults store) table
  decided = search words

  pub refused-17 : (number_of (begin_of store).said ≡ 17) ↔ (¬ (length store ≡ store_size))
  unfolding begin_of
  refused-17 =
      Iff.trans (given no (λ a. number_of a.said) (λ r. refl) (faults store) done table decided refl 17 (omega arith)) true-and

  pub whole-begun : length store ≡ store_size → begin_of store ≡ done
  unfolding begin_of
  whole-begun w = silent no (faults store) done table decided (λ n. n w, tt)

  pub always-fresh : (begin_of store).shelf ≡ fresh
  unfolding begin_of
  always-fresh = among no (λ a. a.shelf ≡ fresh) (faults store) done (refl, tt) refl

  pub refused-untouched : (r : Refusal) → (begin_of store).said ≡ Err r → (begin_of store).store ≡ store
  unfolding begin_of
  refused-untouched r e =
      among no (λ a. a.said ≡ Err r → a.store ≡ store) (faults store) done (λ _. refl, tt)
      (λ q. absurd (let z : ◌≡◌ {A = ℕ} 0 1 = cc in omega arith)) e
