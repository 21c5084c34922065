-- Document 01, "Offering a sound section", by the log alone: what a log says of a table and a sound section of it exactly when the
-- section is answered so.
use Rattle.refusal.specs.Refusal.{number}
use Rattle.refusal.specs.declared.Refusal.{Refusal}
use Rattle.base.specs.Choice.{If◌then◌else◌}
use Rattle.std.specs.Prelude.{ℕ, ◌≡◌, true, false, ◌⊎◌, List, eqb, Result, Ok, Err}
use Rattle.section.specs.Section.{version, section_number, last_section_number}
use Rattle.key.specs.declared.Key.{Key}
use Rattle.shelf_offer.specs.declared.Offered.{Offered}
use Rattle.shelf_laws.specs.History.{Entry}
use Rattle.shelf_laws.specs.Log.{held_by, since, version_since, last_since, bytes_since, Full}

module _ (key : Key) (payload : List ℕ) (log : List Entry) where
  -- key held, same version, same last number
  pub record Joins : Type 0 where
    pub held : held_by key log ≡ true
    pub version : version_since key log ≡ version payload
    pub last : last_since key log ≡ last_section_number payload

  -- 9: new key, no free place
  abbrev pub NoPlace : Type 0
  NoPlace = (held_by key log ≡ false) × Full log

  -- 10: same version with another last number, or other bytes at a held number
  abbrev pub Differs : Type 0
  Differs =
      (held_by key log ≡ true)
      × (version_since key log ≡ version payload)
      × (¬ (last_since key log ≡ last_section_number payload)
      ⊎ ((since key log (section_number payload) ≡ true) × ¬ (bytes_since key log (section_number payload) ≡ payload)))

  abbrev pub Says : Result Offered Refusal → Type 0
  Says (Ok Offered.Began) = (held_by key log ≡ false) × ¬ (Full log)
  Says (Ok Offered.BeganAgain) = (held_by key log ≡ true) × ¬ (version_since key log ≡ version payload)
  Says (Ok Offered.Added) = Joins × (since key log (section_number payload) ≡ false)
  Says (Ok Offered.Repeat) = Joins × (since key log (section_number payload) ≡ true) × (bytes_since key log (section_number payload) ≡ payload)
  Says (Err r) = If eqb (number r) 9 then NoPlace else (If eqb (number r) 10 then Differs else ⊥)
