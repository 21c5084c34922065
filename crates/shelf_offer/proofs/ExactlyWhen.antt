-- "Given exactly when": the numbers of an offer in document 01's words, in its order (17, 18, then 1 to 10), and that the answer keeps to them.
--   table                     17, 18, 1 to 8 (`section`'s words), 9 and 10
--   NoneBefore n              what the numbers before n say is not so
--   refused-17, refused-18, refused-9, refused-10     the number is given exactly when none before it is so and it is
--   exactly                   so of every number
--   accepted                  no number is given exactly when none is so
-- They are one law of tables (`Tables` of base); `offer-number` says that an offer's number is the table's.
use Rattle.std.specs.Prelude.{if◌then◌else◌, Ok, Err}
use Rattle.refusal.specs.Refusal.{number as number_for, number_of}
use Rattle.refusal.specs.declared.Refusal.TheVariants as refusal
use mathlib.Core.Path.{◌≡◌, refl, sym, ap, ◌∙◌}
use mathlib.Core.List.{List, [], ◌∷◌, ◌++◌}
use mathlib.Core.Bool.{false, not, ◌&&◌, ◌||◌}
use mathlib.Core.Logic.Iff
use mathlib.Core.Logic.{◌↔◌, ◌⊎◌}
use Prim.Native.Nat.{ℕ, ◌<◌}
use native.Mathlib.Omega.{arith}
use lib.Dec.{eqb}
use lib.ListN.{length}
use Rattle.base.specs.Choice.{Row, ◌if◌, first}
use Rattle.base.specs.Bytes.{same}
use Rattle.base.specs.Tables.{Rule, ◌says◌, None, above, said, Agree, Decides}
use Rattle.base.proofs.Cases.{by}
use Rattle.base.proofs.Same.{same_refl, same-equal}
use Rattle.base.proofs.Tables.{words, and_so, not_so, number-first, given, passed}
use Rattle.berth.specs.Berth.{places, store_size, standing}
use Rattle.section.specs.Section.{faults, header_of, read_of}
use Rattle.section.proofs.ExactlyWhen as section
use Rattle.shelf.specs.Record.{place_at, length_at, holds, spoiled_of, place_of, free_of}
use Rattle.key.specs.declared.Key.{Key}
use Rattle.shelf.specs.Record.{Place}
use Rattle.shelf.specs.Record.{Shelf}
use Rattle.shelf.proofs.Words.{Some, Held, HasKey, Spoiled, decided, not-held, none_free}
use Rattle.shelf_offer.specs.Offer.{new_of, held_of, sound_of, reading_of, offer_of}
use Rattle.shelf.specs.Record.{key_of}

bytes-so : (a b : List ℕ) → Decides (same a b) (a ≡ b)
bytes-so a b = (same-equal a b, λ e. rw e (same_refl b))

-- two tables, one after the other
agree-append : (rs : List Row) (ws : List Rule) → Agree rs ws → (ss : List Row) (vs : List Rule) → Agree ss vs → Agree (rs ++ ss) (ws ++ vs)
agree-append [] [] g ss vs h = h
agree-append [] (w ∷ ws) g ss vs h = absurd g
agree-append (r ∷ rs) [] g ss vs h = absurd g
agree-append (r ∷ rs) (w ∷ ws) g ss vs h = (g.0, g.1, agree-append rs ws g.2 ss vs h)

first-append : (rs ss : List Row) (other : ℕ) → first number_for (rs ++ ss) other ≡ first number_for rs (first number_for ss other)
first-append [] ss other = refl
first-append (r ∷ rs) ss other = ap (λ x. if r.when then number_for r.refusal else x) (first-append rs ss other)

module _ (shelf : Shelf) (store payload : List ℕ) where
  -- the payload's key, the place that it has, and what stands in the berth of its number
  abbrev pub key : Key
  key = key_of (header_of payload)

  abbrev pub its : Place
  its = place_at shelf (place_of shelf key)

  abbrev pub number : ℕ
  number = (header_of payload).number

  abbrev pub stored : List ℕ
  stored = standing store (place_of shelf key) number (length_at its number)

  -- 17: a lent store not 65,536 bytes
  abbrev pub StoreSize : Type 0
  StoreSize = ¬ (length store ≡ store_size)

  -- a place has the key
  abbrev pub KeyHeld : Type 0
  KeyHeld = Some places (λ p. HasKey (place_at shelf p) key)

  -- 9: new key, no free place
  abbrev pub NoFreePlace : Type 0
  NoFreePlace = ¬ KeyHeld × ¬ (Some places (λ p. (place_at shelf p).taken ≡ false))

  -- 10: same version with another last number, or other bytes at a held number
  abbrev pub Differs : Type 0
  Differs =
      ¬ ¬ KeyHeld
      × ((its.version ≡ (header_of payload).version)
      × (¬ (its.last ≡ (header_of payload).last) ⊎ (Held its number × ¬ (stored ≡ payload))))

  abbrev pub table : List Rule
  table =
      17 says StoreSize
      ∷ 18 says (Spoiled shelf)
      ∷ (section.table payload ++ (9 says NoFreePlace ∷ 10 says Differs ∷ []))

  abbrev pub NoneBefore : ℕ → Type 0
  NoneBefore n = None (above n table)

  -- the tests that these words say
  abbrev last-rows : List Row
  last-rows =
      refusal.NoFreePlace if (eqb (place_of shelf key) places && eqb (free_of shelf) places)
      ∷ refusal.Differs if (not (eqb (place_of shelf key) places)
      && (eqb its.version (header_of payload).version
      && (not (eqb its.last (header_of payload).last) || (holds its number && not (same stored payload)))))
      ∷ []

  abbrev rows : List Row
  rows = refusal.StoreSize if not (eqb (length store) store_size) ∷ refusal.ShelfSpoiled if spoiled_of shelf ∷ (faults payload ++ last-rows)

  new-so : Decides (eqb (place_of shelf key) places && eqb (free_of shelf) places) NoFreePlace
  new-so = and_so (eqb (place_of shelf key) places) (eqb (free_of shelf) places) (not-held shelf key) (none_free shelf)

  differs-so :
      Decides
      (not (eqb (place_of shelf key) places)
      && (eqb its.version (header_of payload).version
      && (not (eqb its.last (header_of payload).last) || (holds its number && not (same stored payload)))))
      Differs
  differs-so =
      and_so (not (eqb (place_of shelf key) places)) _
      (not_so (eqb (place_of shelf key) places) (not-held shelf key))
      (search (words, bytes-so) depth 20)

  agreed : Agree rows table
  agreed = (
    refl,
    search words,
    (
      refl,
      decided shelf,
      agree-append (faults payload) (section.table payload) (section.decided payload) last-rows (9 says NoFreePlace ∷ 10 says Differs ∷ []) (refl, new-so, (refl, differs-so, tt)),
    ),
  )

  -- an offer's number
  abbrev pub offered : ℕ
  offered = number_of (offer_of shelf store payload).said

  last-number : number_of (sound_of shelf store payload (header_of payload)).said ≡ first number_for last-rows 0
  unfolding sound_of new_of held_of
  last-number =
      by (eqb (place_of shelf key) places)
      (λ a. by (eqb (free_of shelf) places) (λ b. rw (a, b)) (λ b. rw (a, b)))
      (λ a.
      by (eqb its.version (header_of payload).version)
      (λ b.
      by (eqb its.last (header_of payload).last)
      (λ c.
      by (holds its number)
      (λ d. by (same stored payload) (λ e. rw (a, b, c, d, e)) (λ e. rw (a, b, c, d, e)))
      (λ d. rw (a, b, c, d)))
      (λ c. rw (a, b, c)))
      (λ b. rw (a, b)))

  reading_number : number_of (reading_of shelf store payload (read_of payload)).said ≡ first number_for (faults payload ++ last-rows) 0
  unfolding read_of
  reading_number =
      number-first Err (λ r. number_of (reading_of shelf store payload r).said) (λ r. refl) (faults payload) (Ok (header_of payload))
      ∙ ap (first number_for (faults payload)) last-number
      ∙ sym (first-append (faults payload) last-rows 0)

  offer-number : offered ≡ first number_for rows 0
  unfolding offer_of
  offer-number =
      by (not (eqb (length store) store_size))
      (λ a. rw a)
      (λ a. by (spoiled_of shelf) (λ b. rw (a, b)) (λ b. rw (a, b) reading_number))

  pub exactly : (n : ℕ) → 0 < n → (offered ≡ n) ↔ (NoneBefore n × said n table)
  exactly n p = rw offer-number (given number_for (λ n. n) (λ r. refl) rows 0 table agreed refl n (omega arith))

  pub refused-17 : (offered ≡ 17) ↔ (NoneBefore 17 × StoreSize)
  refused-17 = exactly 17 (omega arith)

  pub refused-18 : (offered ≡ 18) ↔ (NoneBefore 18 × Spoiled shelf)
  refused-18 = exactly 18 (omega arith)

  pub refused-9 : (offered ≡ 9) ↔ (NoneBefore 9 × NoFreePlace)
  refused-9 = exactly 9 (omega arith)

  pub refused-10 : (offered ≡ 10) ↔ (NoneBefore 10 × Differs)
  refused-10 = exactly 10 (omega arith)

  pub accepted : (offered ≡ 0) ↔ None table
  accepted =
      rw offer-number
      (Iff.trans (passed number_for (λ n. n) (λ r. refl) rows 0 table agreed 0 refl) (λ w. w.0, λ n. (n, refl)))
