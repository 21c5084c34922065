-- What the header promises of every call on a lent shelf, on any numbers, store, key, payload, file and output.
--   Tells                         of an answer that is told in a number
--   Keeps                         of a call that may change the record's numbers and the store
--   BeginKeeps .. SaveFills     of each call; `Fills` of the answers has the laws of an output
use Rattle.std.specs.Prelude.{ℕ, ◌≡◌, List, ◌↔◌, Result, Err}
use Rattle.refusal.specs.Refusal.{number as number_for}
use Rattle.refusal.specs.declared.Refusal.{Refusal}
use Rattle.answers.specs.Answers.{Lent, refusal_in, Fills}
use Rattle.berth.specs.Berth.{standing}
use Rattle.shelf.specs.Record.{Shelf, length_at, place_of}
use Rattle.key.specs.declared.Key.{Key}
use Rattle.shelf.specs.Layout.{shelf_at}
use Rattle.shelf_begin.specs.On.{begin_on}
use Rattle.shelf_begin.specs.Answer.{begun_in, begin_lent}
use Rattle.shelf_offer.specs.Offer.{offer_of}
use Rattle.shelf_offer.specs.Answer.{offered_in, offer_lent}
use Rattle.shelf_release.specs.Release.{release_of}
use Rattle.shelf_release.specs.Answer.{released_in, release_lent}
use Rattle.shelf_load.specs.Load.{load_of}
use Rattle.shelf_load.specs.Answer.{loaded_in, load_lent}
use Rattle.shelf_ask.specs.Ask.{asked, whole_of, missing_of, copy_of}
use Rattle.shelf_ask.specs.Answer.{whole_back, missing_back, copied_in, whole_lent, missing_lent, copy_lent}
use Rattle.shelf_save.specs.Save.{saved_file, save_of}
use Rattle.shelf_save.specs.Answer.{saved_in, save_lent}

-- The laws of a number that tells an answer, where `back` is what a host takes out of a number:
pub record Tells {A : Type 0} (back : ℕ → Result A Refusal) (said : Result A Refusal) (code : ℕ) : Type 0 where
  -- the low 8 bits are 0 exactly when the call is accepted
  pub accepted : (refusal_in code ≡ 0) ↔ ((r : Refusal) → ¬ (said ≡ Err r))
  -- a refused call answers its number alone, which the low 8 bits have room for
  pub number : (r : Refusal) → said ≡ Err r → (code ≡ number_for r) × (refusal_in code ≡ number_for r)
  -- the answer comes back, with each value of it
  pub comes_back : back code ≡ said

-- The laws of a call that is lent a record's numbers and a store, and what it leaves:
pub record Keeps {A : Type 0} (back : ℕ → Result A Refusal) (said : Result A Refusal) (words store : List ℕ) (left : Lent) : Type 0 where
  pub tells : Tells back said left.code
  -- a refused call leaves the numbers and the store as they were
  pub untouched : ¬ (refusal_in left.code ≡ 0) → (left.words ≡ words) × (left.store ≡ store)

-- Of each call on the record that lent numbers are, and a lent store:
module _ (words store : List ℕ) where
  abbrev shelf : Shelf
  shelf = shelf_at words

  abbrev pub BeginKeeps : Type 0
  BeginKeeps = Keeps begun_in (begin_on words store).said words store (begin_lent words store)

  abbrev pub OfferKeeps : List ℕ → Type 0
  OfferKeeps payload = Keeps offered_in (offer_of shelf store payload).said words store (offer_lent words store payload)

  abbrev pub LoadKeeps : List ℕ → Type 0
  LoadKeeps file = Keeps loaded_in (load_of shelf store file).said words store (load_lent words store file)

  module _ (key : Key) where
    abbrev pub ReleaseKeeps : Type 0
    ReleaseKeeps = Keeps released_in (release_of shelf store key).said words store (release_lent words store key)

    -- a question is lent no record and no store that it may change
    abbrev pub WholeTells : Type 0
    WholeTells = Tells whole_back (whole_of shelf store key) (whole_lent words store key)

    abbrev pub MissingTells : Type 0
    MissingTells = Tells missing_back (missing_of shelf store key) (missing_lent words store key)

    -- section n, copied to an output: a refused copy leaves it as it was, and else the section's bytes stand at its front
    module _ (n : ℕ) (old : List ℕ) where
      abbrev pub CopyTells : Type 0
      CopyTells = Tells copied_in (copy_of shelf store key n old).said (copy_lent words store key n old).code

      abbrev pub CopyFills : Type 0
      CopyFills = Fills (standing store (place_of shelf key) n (length_at (asked shelf store key) n)) old (copy_lent words store key n old)

    -- the table, saved to an output: a refused save leaves it as it was, and else the file stands at its front
    module _ (old : List ℕ) where
      abbrev pub SaveTells : Type 0
      SaveTells = Tells saved_in (save_of shelf store key old).said (save_lent words store key old).code

      abbrev pub SaveFills : Type 0
      SaveFills = Fills (saved_file shelf store key) old (save_lent words store key old)
