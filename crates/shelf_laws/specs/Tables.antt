-- Which tables are held after a history, by the log alone, and which table a load brings; the theorems are in proofs/Tables.
use Rattle.std.specs.Prelude.{ℕ, ◌/◌, ◌%◌, ◌<◌, ◌≡◌, true, List, [], ◌∷◌, ◌⊎◌, length, if◌then◌else◌, Ok}
use Rattle.answers.specs.Answers.{Told, told}
use Rattle.berth.specs.Berth.{sections, places}
use Rattle.key.specs.declared.Key.{Key}
use Rattle.shelf.specs.Record.{free_of}
use Rattle.shelf.specs.Layout.{listed}
use Rattle.shelf_ask.specs.Tables.{table_told}
use Rattle.file_table.specs.Answer.{file_told}
use Rattle.shelf_laws.specs.State.{State, load_on, after_load}
use Rattle.shelf_laws.specs.History.{Call, Entry, after_all, log_of}
use Rattle.shelf_laws.specs.Log.{held_by, since, version_since, last_since, bytes_since}

-- the length of section n as it was last accepted or loaded; 0 where it was not since the table last began
abbrev pub length_since : Key → List Entry → ℕ → ℕ
length_since key log n = if since key log n then length (bytes_since key log n) else 0

-- the numbers of a table, by a log
abbrev pub numbers_by : Key → List Entry → List ℕ
numbers_by key log =
    key.table
    ∷ key.extension
    ∷ key.service
    ∷ (key.start / 65536)
    ∷ (key.start % 65536)
    ∷ version_since key log
    ∷ last_since key log
    ∷ listed sections (length_since key log)

-- what a place tells
abbrev pub tells_of : State → ℕ → Told
tells_of s p = table_told s.shelf (length s.store) p

-- a table that the log holds is in a place, which tells it as the log does
abbrev pub HeldTold : Type 0
HeldTold =
    (h : List Call) (key : Key)
    → held_by key (log_of h) ≡ true
    → (p : ℕ) × (p < places) × (tells_of (after_all h) p ≡ told 0 (numbers_by key (log_of h)))

-- and no place tells any other: it is free or none of the four, or tells a table that the log holds
abbrev pub ToldHeld : Type 0
ToldHeld =
    (h : List Call) (p : ℕ)
    → (tells_of (after_all h) p ≡ told 14 [])
    ⊎ ((p < places) × ((key : Key) × (held_by key (log_of h) ≡ true) × (tells_of (after_all h) p ≡ told 0 (numbers_by key (log_of h)))))

-- nor do two places tell the same, so that with ToldHeld no table is told twice
abbrev pub ToldOnce : Type 0
ToldOnce =
    (h : List Call) (p q : ℕ)
    → tells_of (after_all h) p ≡ tells_of (after_all h) q
    → (tells_of (after_all h) p ≡ told 14 []) ⊎ (p ≡ q)

-- a load that is done is of a file that is told as a table, and the place that was the lowest free one before it tells that table after it
abbrev pub LoadTold : Type 0
LoadTold =
    (h : List Call) (file : List ℕ)
    → (load_on (after_all h) file).said ≡ Ok tt
    → ((file_told file).number ≡ 0)
    × (free_of (after_all h).shelf < places)
    × (tells_of (after_load (load_on (after_all h) file)) (free_of (after_all h).shelf) ≡ file_told file)
