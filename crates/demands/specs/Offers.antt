-- Document 01, "Offering a sound section", of the functions that a host calls: what a payload is answered after any history. The
-- theorems are in proofs/Offers.
--
-- `held_by`, `since`, `version_since`, `last_since`, `bytes_since` and `Full` (shelf_laws, specs/Log) read the log that the numbers tell, and
-- never the record; `Joins` (specs/Offers) is a table that is held with the section's version and last number.
use Rattle.std.specs.Prelude.{ℕ, ◌≡◌, true, false, ◌↔◌, ◌⊎◌, List, Ok, Err}
use Rattle.refusal.specs.Refusal.{number}
use Rattle.refusal.specs.declared.Refusal.{Refusal}
use Rattle.section.specs.Section.{read_of, version, section_number, last_section_number}
use Rattle.key.specs.declared.Key.{Key}
use Rattle.shelf_offer.specs.declared.Offered.{Offered}
use Rattle.shelf_offer.specs.Answer.{offered_code}
use Rattle.shelf_laws.specs.History.{Entry}
use Rattle.shelf_laws.specs.Log.{held_by, since, version_since, last_since, bytes_since, Full}
use Rattle.shelf_laws.specs.Offers.{Joins}
use Rattle.shelf_laws.specs.Reception.{SectionOf}
use Rattle.shelf_histories.specs.History.{History, log_after, offer_after}

-- a sound section of the table with a key is answered by this number exactly when the log says this of the two
abbrev pub Exactly : ℕ → (Key → List ℕ → List Entry → Type 0) → Type 0
Exactly code Says =
    (h : History) (key : Key) (payload : List ℕ)
    → SectionOf key payload
    → ((offer_after h payload).code ≡ code) ↔ Says key payload (log_after h)

-- a payload that is not sound is answered the number of its reading, whatever is held
abbrev pub UnsoundAnswered : Type 0
UnsoundAnswered = (h : History) (payload : List ℕ) (r : Refusal) → read_of payload ≡ Err r → (offer_after h payload).code ≡ number r

-- new key, no free place: four tables are held, and not that of the section
abbrev pub NineExactly : Type 0
NineExactly = Exactly 9 (λ key payload log. (held_by key log ≡ false) × Full log)

-- key not held, and a place is free: it begins the table
abbrev pub BeganExactly : Type 0
BeganExactly = Exactly (offered_code (Ok Offered.Began)) (λ key payload log. (held_by key log ≡ false) × ¬ (Full log))

-- key held, other version: it begins the table again
abbrev pub BeganAgainExactly : Type 0
BeganAgainExactly =
    Exactly (offered_code (Ok Offered.BeganAgain))
    (λ key payload log. (held_by key log ≡ true) × ¬ (version_since key log ≡ version payload))

-- same version, number not held, same last number: it is added
abbrev pub AddedExactly : Type 0
AddedExactly =
    Exactly (offered_code (Ok Offered.Added))
    (λ key payload log. Joins key payload log × (since key log (section_number payload) ≡ false))

-- same version, same number, same bytes throughout: a repeat
abbrev pub RepeatExactly : Type 0
RepeatExactly =
    Exactly (offered_code (Ok Offered.Repeat))
    (λ key payload log.
    Joins key payload log
    × (since key log (section_number payload) ≡ true)
    × (bytes_since key log (section_number payload) ≡ payload))

-- same version with another last number, or other bytes at a held number
abbrev pub TenExactly : Type 0
TenExactly =
    Exactly 10
    (λ key payload log.
    (held_by key log ≡ true)
    × (version_since key log ≡ version payload)
    × (¬ (last_since key log ≡ last_section_number payload)
    ⊎ ((since key log (section_number payload) ≡ true) × ¬ (bytes_since key log (section_number payload) ≡ payload))))
