-- Which tables are held, of the functions that a host calls: `table_lent` puts the numbers of the table in a place at the front of a buffer, and
-- `file_table_lent` those of the table that a file is. The theorems are in proofs/Tables.
use Rattle.std.specs.Prelude.{ℕ, ◌<◌, ◌≤◌, ◌≡◌, true, List, [], ◌++◌, ◌⊎◌, length, drop}
use Rattle.base.specs.Octets.{Octets}
use Rattle.answers.specs.Answers.{Told, told, Out, out}
use Rattle.berth.specs.Berth.{places}
use Rattle.key.specs.declared.Key.{Key}
use Rattle.shelf.specs.Record.{free_of}
use Rattle.shelf.specs.Layout.{shelf_at}
use Rattle.shelf_ask.specs.Tables.{table_told}
use Rattle.shelf_ask.specs.Answer.{table_lent}
use Rattle.file_table.specs.Answer.{file_told, file_table_lent}
use Rattle.shelf_laws.specs.Log.{held_by}
use Rattle.shelf_laws.specs.Tables.{numbers_by}
use Rattle.shelf_histories.specs.History.{Loan, History, left_after, log_after, load_after}

-- the number and the values of what a place tells of what was lent, which `table_lent` puts into a buffer
abbrev pub tells : Loan → ℕ → Told
tells l p = table_told (shelf_at l.words) (length l.store) p

-- what a place tells after a history, in a buffer
abbrev pub table_after : History → ℕ → List ℕ → Out
table_after h p fields = table_lent (left_after h).words (left_after h).store p fields

-- the buffer with a table's twenty-three numbers, by the log
abbrev pub told_in : History → Key → List ℕ → Out
told_in h key fields = out 0 (numbers_by key (log_after h) ++ drop 23 fields)

-- after any history a table that the log holds is in a place, which tells its key, its version and its last number as it last began, and of each
-- section the length with which it was last accepted or loaded since, and 0 for one that was not
abbrev pub HeldTold : Type 0
HeldTold =
    (h : History) (key : Key)
    → held_by key (log_after h) ≡ true
    → (p : ℕ) × (p < places) × ((fields : List ℕ) → 23 ≤ length fields → table_after h p fields ≡ told_in h key fields)

-- and a place tells nothing else: it is refused 14, or is one of the four and has a table that the log holds
abbrev pub ToldHeld : Type 0
ToldHeld =
    (h : History) (p : ℕ) (fields : List ℕ)
    → 23 ≤ length fields
    → (table_after h p fields ≡ out 14 fields)
    ⊎ ((p < places) × ((key : Key) × (held_by key (log_after h) ≡ true) × (table_after h p fields ≡ told_in h key fields)))

-- nor do two places tell the same, so that with ToldHeld no table is told twice
abbrev pub ToldOnce : Type 0
ToldOnce =
    (h : History) (p q : ℕ)
    → tells (left_after h) p ≡ tells (left_after h) q
    → (tells (left_after h) p ≡ told 14 []) ⊎ (p ≡ q)

-- a file that is loaded is told as a table, and the place that was the lowest free one before the load tells the same after it
abbrev pub LoadTold : Type 0
LoadTold =
    (h : History) (file : List ℕ)
    → Octets file
    → (load_after h file).code ≡ 0
    → (free_of (shelf_at (left_after h).words) < places)
    × ((fields : List ℕ)
    → 23 ≤ length fields
    → ((file_table_lent file fields).code ≡ 0)
    × (table_lent (load_after h file).words (load_after h file).store (free_of (shelf_at (left_after h).words)) fields ≡ file_table_lent file fields))

-- no load, after any history, takes a file that is told as no table: it is refused by the same number
abbrev pub LoadUntold : Type 0
LoadUntold = (h : History) (file : List ℕ) → ¬ ((file_told file).number ≡ 0) → (load_after h file).code ≡ (file_told file).number
