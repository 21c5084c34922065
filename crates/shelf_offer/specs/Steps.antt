-- Offering in two parts, as the code goes about it: the step that an offer comes to, and what is then done. `Offer` and `On` have the whole, and
-- it is proved that the two parts are it (`step-done`, `decided`).
use Rattle.std.specs.Prelude.{ℕ, List, not, eqb, length, if◌then◌else◌, Result, Ok, Err}
use Rattle.base.specs.Bytes.{same}
use Rattle.refusal.specs.declared.Refusal.{Refusal}
use Rattle.refusal.specs.declared.Refusal.TheVariants.{StoreSize, ShelfSpoiled, NoFreePlace, Differs}
use Rattle.section.specs.Section.{read_of, header_of}
use Rattle.section.specs.declared.Header.{Header}
use Rattle.berth.specs.Berth.{sections, places, store_size, put, wiped_where, standing}
use Rattle.shelf.specs.Record.{place_at, with_place, length_at, holds, spoiled_of, place_of, free_of}
use Rattle.shelf.specs.Record.{Place}
use Rattle.shelf.specs.Record.{Shelf}
use Rattle.shelf_offer.specs.declared.Offered.{Offered}
use Rattle.shelf_offer.specs.declared.Step.{Step}
use Rattle.shelf_offer.specs.declared.Step.TheVariants.{Repeats, Begins, BeginsAgain, Adds}
use Rattle.shelf_offer.specs.Offer.{After, begun_place, added_place, no}
use Rattle.shelf.specs.Record.{key_of}
use Rattle.shelf_write.specs.Writes.{held_in}
use Rattle.shelf_offer.specs.On.{begun_words}

-- key held in place p, with what stands there
unfoldable pub held_step : Place → List ℕ → List ℕ → ℕ → Header → Result Step Refusal
held_step place store payload p h =
    if not (eqb place.version h.version) then Ok (BeginsAgain p)
    else (if not (eqb place.last h.last) then Err Differs
    else (if not (holds place h.number) then Ok (Adds p)
    else (if same (standing store p h.number (length_at place h.number)) payload then Ok Repeats else Err Differs)))

module _ (shelf : Shelf) (store payload : List ℕ) where
  -- key not held
  unfoldable pub new_step : Result Step Refusal
  new_step = if eqb (free_of shelf) places then Err NoFreePlace else Ok (Begins (free_of shelf))

  unfoldable pub sound_step : Header → Result Step Refusal
  sound_step h =
      if eqb (place_of shelf (key_of h)) places then new_step
      else held_step (place_at shelf (place_of shelf (key_of h))) store payload (place_of shelf (key_of h)) h

  abbrev pub reading_step : Result Header Refusal → Result Step Refusal
  reading_step (Ok h) = sound_step h
  reading_step (Err r) = Err r

  unfoldable pub step_of : Result Step Refusal
  step_of =
      if not (eqb (length store) store_size) then Err StoreSize
      else (if spoiled_of shelf then Err ShelfSpoiled else reading_step (read_of payload))

  -- what is done at each step, with the header that the payload has
  unfoldable pub done : Result Step Refusal → After
  done (Err r) = no shelf store payload r
  done (Ok Repeats) = record { said = Ok Offered.Repeat; shelf = shelf; store = store }
  done (Ok (Begins p)) =
      record {
        said = Ok Offered.Began;
        shelf = with_place shelf p (begun_place (header_of payload) (length payload));
        store = put store p (header_of payload).number payload;
      }
  done (Ok (BeginsAgain p)) =
      record {
        said = Ok Offered.BeganAgain;
        shelf = with_place shelf p (begun_place (header_of payload) (length payload));
        store = put (wiped_where (holds (place_at shelf p)) sections store p) p (header_of payload).number payload;
      }
  done (Ok (Adds p)) =
      record {
        said = Ok Offered.Added;
        shelf = with_place shelf p (added_place (place_at shelf p) (header_of payload) (length payload));
        store = put store p (header_of payload).number payload;
      }

-- what is written into the numbers at each step
unfoldable pub written : List ℕ → List ℕ → Result Step Refusal → List ℕ
written words payload (Err r) = words
written words payload (Ok Repeats) = words
written words payload (Ok (Begins p)) = begun_words words p (header_of payload) (length payload)
written words payload (Ok (BeginsAgain p)) = begun_words words p (header_of payload) (length payload)
written words payload (Ok (Adds p)) = held_in words p (header_of payload).number (length payload)
