-- Reception of one table: its sound sections, and histories that leave it undisturbed.
use Rattle.std.specs.Prelude.{ℕ, ◌≡◌, true, Result, Ok, Err}
use mathlib.Core.List.{List, Memᴰ}
use Rattle.refusal.specs.declared.Refusal.{Refusal}
use Rattle.refusal.specs.declared.Refusal.TheVariants.{NoFreePlace}
use Rattle.section.specs.Section.{read_of, header_of, version, section_number, last_section_number}
use Rattle.key.specs.declared.Key.{Key}
use Rattle.shelf_offer.specs.declared.Offered.{Offered}
use Rattle.shelf_laws.specs.Named.{key_in}
use Rattle.shelf_laws.specs.History.{Call, Entry, offer, offered, loaded, released, asked}
use Rattle.shelf_laws.specs.Log.{loads}

-- the payload is a sound section of the table with that key
pub record SectionOf (key : Key) (payload : List ℕ) : Type 0 where
  pub sound : read_of payload ≡ Ok (header_of payload)
  pub its_key : key_in payload ≡ key

-- the payload is offered in the history
abbrev pub OfferedIn : List Call → List ℕ → Type 0
OfferedIn h payload = Memᴰ (offer payload) h

-- a section has the version v, the last number l and the bytes that f gives for its number, and did not meet a full shelf
pub record Fits (v l : ℕ) (f : ℕ → List ℕ) (payload : List ℕ) (said : Result Offered Refusal) : Type 0 where
  pub version : version payload ≡ v
  pub last : last_section_number payload ≡ l
  pub bytes : payload ≡ f (section_number payload)
  pub room : said ≡ Err NoFreePlace → ⊥

module _ (key : Key) (v l : ℕ) (f : ℕ → List ℕ) where
  -- the table's sections fit, and it is neither released nor loaded
  abbrev pub Undisturbed : Entry → Type 0
  Undisturbed (offered payload said) = SectionOf key payload → Fits v l f payload said
  Undisturbed (released k said) = k ≡ key → said ≡ Ok tt → ⊥
  Undisturbed (loaded file said) = loads key file ≡ true → said ≡ Ok tt → ⊥
  Undisturbed (asked question said) = Unit {0}
