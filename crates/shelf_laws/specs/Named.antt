-- Document 01, "The shelf": a call changes only the berths named here. Whether berth n of place p is one of them, by what was
-- answered and the record that the call was handed. Asking names none.
use Rattle.std.specs.Prelude.{ℕ, List, Bool, false, ◌&&◌, ◌||◌, eqb, Result, Ok, Err}
use Rattle.refusal.specs.declared.Refusal.{Refusal}
use Rattle.section.specs.Section.{header_of, section_number}
use Rattle.berth.specs.Berth.{places}
use Rattle.shelf.specs.Record.{place_at, holds, place_of, free_of}
use Rattle.key.specs.declared.Key.{Key}
use Rattle.shelf.specs.Record.{Shelf}
use Rattle.shelf.specs.Record.{key_of}
use Rattle.shelf_offer.specs.declared.Offered.{Offered}
use Rattle.shelf_laws.specs.File.{carries}

-- the key of a payload's table, by its header
abbrev pub key_in : List ℕ → Key
key_in payload = key_of (header_of payload)

-- the place of the section's table, once it is accepted
abbrev pub own_place : Shelf → List ℕ → Result Offered Refusal → ℕ
own_place shelf payload (Ok Offered.Began) = free_of shelf
own_place shelf payload (Ok Offered.BeganAgain) = place_of shelf (key_in payload)
own_place shelf payload (Ok Offered.Added) = place_of shelf (key_in payload)
own_place shelf payload (Ok Offered.Repeat) = place_of shelf (key_in payload)
own_place shelf payload (Err r) = places

-- begun or added: the section's own berth; begun again: the held ones of that table too; a repeat or a refusal: none
abbrev pub offer_names : Shelf → List ℕ → Result Offered Refusal → ℕ → ℕ → Bool
offer_names shelf payload (Ok Offered.Began) p n = eqb p (free_of shelf) && eqb n (section_number payload)
offer_names shelf payload (Ok Offered.BeganAgain) p n =
    eqb p (place_of shelf (key_in payload)) && (eqb n (section_number payload) || holds (place_at shelf p) n)
offer_names shelf payload (Ok Offered.Added) p n = eqb p (place_of shelf (key_in payload)) && eqb n (section_number payload)
offer_names shelf payload (Ok Offered.Repeat) p n = false
offer_names shelf payload (Err r) p n = false

-- released: the sixteen of its place
abbrev pub release_names : Shelf → Key → Result (Unit {0}) Refusal → ℕ → ℕ → Bool
release_names shelf key (Ok done) p n = eqb p (place_of shelf key)
release_names shelf key (Err r) p n = false

-- loaded: in its place the berth of each section that the file has
abbrev pub load_names : Shelf → List ℕ → Result (Unit {0}) Refusal → ℕ → ℕ → Bool
load_names shelf file (Ok done) p n = eqb p (free_of shelf) && carries file n
load_names shelf file (Err r) p n = false
