-- A load on lent numbers: the answer and the store are those of the load on the record that the numbers are.
use Rattle.std.specs.Prelude.{ℕ, zero, suc, List, eqb, get_or, if◌then◌else◌, Result, Ok, Err}
use Rattle.refusal.specs.declared.Refusal.{Refusal}
use Rattle.section.specs.declared.Header.{Header}
use Rattle.berth.specs.Berth.{sections}
use Rattle.shelf.specs.Record.{key_of, free_of}
use Rattle.shelf.specs.Layout.{shelf_at}
use Rattle.shelf_write.specs.Writes.{held_in, head_in}
use Rattle.file.specs.Scan.{scan_of}
use Rattle.file.specs.declared.Table.{Table}
use Rattle.shelf_load.specs.Load.{load_of}

-- what a call leaves: the answer, the numbers, the store
pub record Leaving : Type 0 where
  pub said : Result (Unit {0}) Refusal
  pub words : List ℕ
  pub store : List ℕ

abbrev pub leaving : Result (Unit {0}) Refusal → List ℕ → List ℕ → Leaving
leaving said words store = record { said = said; words = words; store = store }

-- of the first k sections of place p those that have a length are held
unfoldable pub held_below : ℕ → List ℕ → ℕ → List ℕ → List ℕ
held_below zero words p lengths = words
held_below (suc k) words p lengths =
    if eqb (get_or lengths k 0) 0 then held_below k words p lengths
    else held_in (held_below k words p lengths) p k (get_or lengths k 0)

-- place p is taken by the table of a file
abbrev pub loaded_in : List ℕ → ℕ → Header → List ℕ → List ℕ
loaded_in words p h lengths = held_below sections (head_in words p (key_of h) h.version h.last) p lengths

-- .. where it is loaded
abbrev pub table_by : List ℕ → ℕ → Table → Result (Unit {0}) Refusal → List ℕ
table_by words p table (Ok done) = loaded_in words p table.header table.lengths
table_by words p table (Err r) = words

-- the numbers after a load of what a scan found
abbrev pub words_by : List ℕ → ℕ → Result Table Refusal → Result (Unit {0}) Refusal → List ℕ
words_by words p (Ok table) said = table_by words p table said
words_by words p (Err r) said = words

unfoldable pub load_on : List ℕ → List ℕ → List ℕ → Leaving
load_on words store file =
    leaving
    (load_of (shelf_at words) store file).said
    (words_by words (free_of (shelf_at words)) (scan_of file) (load_of (shelf_at words) store file).said)
    (load_of (shelf_at words) store file).store
