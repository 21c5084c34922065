-- The calls that may change a lent shelf keep their laws.
--   begin_keeps, offer_keeps, load_keeps, release_keeps
use mathlib.Core.Path.{refl}
use mathlib.Core.Bool.{not}
use mathlib.Core.List.{List, [], ◌∷◌}
use Prim.Native.Nat.{ℕ}
use lib.Dec.{eqb}
use lib.ListN.{length}
use Rattle.base.specs.Choice.{◌if◌}
use Rattle.base.specs.Bytes.{zeros, same}
use Rattle.base.proofs.Cases.{by}
use Rattle.base.proofs.Tables.{among}
use Rattle.section.specs.Section.{read_of}
use Rattle.section.specs.declared.Header.{Header}
use Rattle.std.specs.Prelude.{Result, Ok, Err}
use Rattle.refusal.specs.declared.Refusal.{Refusal}
use Rattle.refusal.specs.declared.Refusal.TheVariants.{NoFreePlace, Differs, KeyHeld, TableNotHeld, StoreSize, ShelfSpoiled}
use Rattle.berth.specs.Berth.{places, store_size, standing}
use Rattle.shelf.specs.Record.{Shelf, key_of, place_at, length_at, holds, spoiled_of, place_of, free_of}
use Rattle.key.specs.declared.Key.{Key}
use Rattle.shelf.specs.Layout.{shelf_at}
use Rattle.shelf_write.specs.Writes.{fresh_words}
use Rattle.shelf_begin.specs.On as BeginOn
use Rattle.shelf_begin.specs.Answer.{begun_in, begin_out, begin_lent}
use Rattle.shelf_begin.proofs.Told.{begun-back}
use Rattle.shelf_offer.specs.Offer as Offer
use Rattle.shelf_offer.specs.declared.Offered.{Offered}
use Rattle.shelf_offer.specs.On as OfferOn
use Rattle.shelf_offer.specs.Answer.{offered_in, offer_out, offer_lent}
use Rattle.shelf_offer.proofs.Told.{offered-back}
use Rattle.shelf_ask.specs.Ask.{unasked}
use Rattle.shelf_release.specs.Release as Release
use Rattle.shelf_release.specs.On as ReleaseOn
use Rattle.shelf_release.specs.Answer.{released_in, release_out, release_lent}
use Rattle.shelf_release.proofs.Told.{released-back}
use Rattle.shelf_release.proofs.Steps as Releasing
use Rattle.file.specs.Scan.{scan_of}
use Rattle.file.specs.declared.Table.{Table}
use Rattle.shelf_load.specs.Load as Load
use Rattle.shelf_load.specs.On as LoadOn
use Rattle.shelf_load.specs.Answer.{loaded_in, load_out, load_lent}
use Rattle.shelf_load.proofs.Told.{loaded-back}
use Rattle.shelf_answers.specs.Laws.{Keeps, BeginKeeps, OfferKeeps, LoadKeeps, ReleaseKeeps}
use Rattle.shelf_answers.proofs.Tells.{keeps-no, keeps-yes}

module _ (words store : List ℕ) where
  abbrev shelf : Shelf
  shelf = shelf_at words

  -- beginning
  abbrev BeginsSo : BeginOn.Leaving → Type 0
  BeginsSo a = Keeps begun_in a.said words store (begin_out a)

  unbegun-so : (r : Refusal) → BeginsSo (BeginOn.leaving (Err r) words store)
  unbegun-so r = keeps-no begun_in r (begun-back (Err r)) words store

  pub begin_keeps : BeginKeeps words store
  unfolding begin_lent BeginOn.begin_on
  begin_keeps =
      among (λ r. BeginOn.leaving (Err r) words store) BeginsSo (BeginOn.unbegun words store)
      (BeginOn.leaving (Ok tt) fresh_words (zeros store_size))
      (unbegun-so StoreSize, (unbegun-so ShelfSpoiled, tt))
      (keeps-yes begun_in tt 0 refl refl words store fresh_words (zeros store_size))

  -- offering, case by case
  module _ (payload : List ℕ) where
    abbrev OffersSo : Result Offered Refusal → List ℕ → List ℕ → Type 0
    OffersSo said kept left = Keeps offered_in said words store (offer_out (OfferOn.leaving said kept left))

    unoffered-so : (r : Refusal) → OffersSo (Err r) words store
    unoffered-so r = keeps-no offered_in r (offered-back (Err r)) words store

    began-so : (kept left : List ℕ) → OffersSo (Ok Offered.Began) kept left
    began-so = keeps-yes offered_in Offered.Began 256 refl refl words store

    again-so : (kept left : List ℕ) → OffersSo (Ok Offered.BeganAgain) kept left
    again-so = keeps-yes offered_in Offered.BeganAgain 512 refl refl words store

    added-so : (kept left : List ℕ) → OffersSo (Ok Offered.Added) kept left
    added-so = keeps-yes offered_in Offered.Added 768 refl refl words store

    repeat-so : (kept left : List ℕ) → OffersSo (Ok Offered.Repeat) kept left
    repeat-so = keeps-yes offered_in Offered.Repeat 1024 refl refl words store

    held-so : (p : ℕ) (h : Header)
        → OffersSo (Offer.held_of shelf store payload p h).said
        (OfferOn.words_by words payload (Offer.held_of shelf store payload p h).said)
        (Offer.held_of shelf store payload p h).store
    unfolding Offer.held_of
    held-so p h =
        by (not (eqb (place_at shelf p).version h.version))
        (λ a. rw a (again-so _ _))
        (λ a.
        by (not (eqb (place_at shelf p).last h.last))
        (λ b. rw (a, b) (unoffered-so Differs))
        (λ b.
        by (not (holds (place_at shelf p) h.number))
        (λ c. rw (a, b, c) (added-so _ _))
        (λ c.
        by (same (standing store p h.number (length_at (place_at shelf p) h.number)) payload)
        (λ d. rw (a, b, c, d) (repeat-so _ _))
        (λ d. rw (a, b, c, d) (unoffered-so Differs)))))

    sound-so : (h : Header)
        → OffersSo (Offer.sound_of shelf store payload h).said
        (OfferOn.words_by words payload (Offer.sound_of shelf store payload h).said)
        (Offer.sound_of shelf store payload h).store
    unfolding Offer.sound_of Offer.new_of
    sound-so h =
        by (eqb (place_of shelf (key_of h)) places)
        (λ a.
        by (eqb (free_of shelf) places)
        (λ b. rw (a, b) (unoffered-so NoFreePlace))
        (λ b. rw (a, b) (began-so _ _)))
        (λ a. rw a (held-so (place_of shelf (key_of h)) h))

    reading-so : (r : Result Header Refusal)
        → OffersSo (Offer.reading_of shelf store payload r).said
        (OfferOn.words_by words payload (Offer.reading_of shelf store payload r).said)
        (Offer.reading_of shelf store payload r).store
    reading-so (Ok h) = sound-so h
    reading-so (Err r) = unoffered-so r

    pub offer_keeps : OfferKeeps words store payload
    unfolding offer_lent OfferOn.offer_on Offer.offer_of
    offer_keeps =
        by (not (eqb (length store) store_size))
        (λ a. rw a (unoffered-so StoreSize))
        (λ a.
        by (spoiled_of shelf)
        (λ b. rw (a, b) (unoffered-so ShelfSpoiled))
        (λ b. rw (a, b) (reading-so (read_of payload))))

  -- releasing
  module _ (key : Key) where
    abbrev ReleasesSo : Release.After → Type 0
    ReleasesSo a =
        Keeps released_in a.said words store
        (release_out (ReleaseOn.leaving a.said (ReleaseOn.words_by words (place_of shelf key) a.said) a.store))

    unreleased-so : (r : Refusal) → ReleasesSo (Releasing.refuse shelf store key r)
    unreleased-so r = keeps-no released_in r (released-back (Err r)) words store

    pub release_keeps : ReleaseKeeps words store key
    unfolding release_lent ReleaseOn.release_on Release.release_of
    release_keeps =
        among (Releasing.refuse shelf store key) ReleasesSo (unasked shelf store key) (Releasing.done shelf store key (place_of shelf key))
        (unreleased-so StoreSize, (unreleased-so ShelfSpoiled, (unreleased-so TableNotHeld, tt)))
        (keeps-yes released_in tt 0 refl refl words store _ _)

  -- loading
  module _ (file : List ℕ) where
    -- what a load leaves where its scan found `s`
    abbrev LoadsSo : Result Table Refusal → Load.After → Type 0
    LoadsSo s a =
        Keeps loaded_in a.said words store
        (load_out (LoadOn.leaving a.said (LoadOn.words_by words (free_of shelf) s a.said) a.store))

    unloaded-so : (s : Result Table Refusal) (r : Refusal) → LoadsSo s (Load.no shelf store file r)
    unloaded-so s r = go s (keeps-no loaded_in r (loaded-back (Err r)) words store)
      where
        go : (s : Result Table Refusal) → LoadsSo (Err r) (Load.no shelf store file r) → LoadsSo s (Load.no shelf store file r)
        go (Ok table) k = k
        go (Err q) k = k

    answered-so : (s : Result Table Refusal) → LoadsSo s (Load.answered shelf store file s)
    unfolding Load.table_of
    answered-so (Ok table) =
        let h = table.header in
        among (Load.no shelf store file) (LoadsSo (Ok table))
        (KeyHeld if not (eqb (place_of shelf (key_of h)) places) ∷ NoFreePlace if eqb (free_of shelf) places ∷ []) _
        (unloaded-so (Ok table) KeyHeld, (unloaded-so (Ok table) NoFreePlace, tt))
        (keeps-yes loaded_in tt 0 refl refl words store _ _)
    answered-so (Err r) = unloaded-so (Err r) r

    pub load_keeps : LoadKeeps words store file
    unfolding load_lent LoadOn.load_on Load.load_of
    load_keeps =
        among (Load.no shelf store file) (LoadsSo (scan_of file))
        (StoreSize if not (eqb (length store) store_size) ∷ ShelfSpoiled if spoiled_of shelf ∷ []) (Load.answered shelf store file (scan_of file))
        (unloaded-so (scan_of file) StoreSize, (unloaded-so (scan_of file) ShelfSpoiled, tt))
        (answered-so (scan_of file))
