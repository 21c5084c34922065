-- A shelf's record with the store that is lent with it, the calls on the two, and what each call leaves.
use Rattle.std.specs.Prelude.{ℕ, ◌<◌, List, ◌≡◌, Bool, length, Result, Option}
use Rattle.refusal.specs.declared.Refusal.{Refusal}
use Rattle.berth.specs.Berth.{places, sections}
use Rattle.shelf.specs.Record.{place_at}
use Rattle.key.specs.declared.Key.{Key}
use Rattle.shelf.specs.Record.{Shelf}
use Rattle.shelf_offer.specs.Offer as Offer
use Rattle.shelf_release.specs.Release as Release
use Rattle.shelf_ask.specs.Ask as Ask
use Rattle.shelf_load.specs.Load as Load
use Rattle.shelf_save.specs.Save as Save

pub record State : Type 0 where
  pub shelf : Shelf
  pub store : List ℕ

-- a record as its type has it: four places, each with sixteen lengths; every record that a program can hand in is so formed
pub record Formed (shelf : Shelf) : Type 0 where
  pub four : length shelf.places ≡ places
  pub sixteen : (p : ℕ) → p < places → length (place_at shelf p).lengths ≡ sections

module _ (s : State) where
  abbrev pub offer_to : List ℕ → Offer.After
  offer_to payload = Offer.offer_of s.shelf s.store payload

  abbrev pub load_on : List ℕ → Load.After
  load_on file = Load.load_of s.shelf s.store file

  abbrev pub release_from : Key → Release.After
  release_from key = Release.release_of s.shelf s.store key

  abbrev pub copy_out : Key → ℕ → List ℕ → Ask.Copy
  copy_out key n out = Ask.copy_of s.shelf s.store key n out

  abbrev pub whole_in : Key → Result Bool Refusal
  whole_in key = Ask.whole_of s.shelf s.store key

  abbrev pub missing_in : Key → Result (Option ℕ) Refusal
  missing_in key = Ask.missing_of s.shelf s.store key

  abbrev pub save_out : Key → List ℕ → Save.Save
  save_out key out = Save.save_of s.shelf s.store key out

abbrev pub after_offer : Offer.After → State
after_offer r = record { shelf = r.shelf; store = r.store }

abbrev pub after_load : Load.After → State
after_load r = record { shelf = r.shelf; store = r.store }

abbrev pub after_release : Release.After → State
after_release r = record { shelf = r.shelf; store = r.store }
