-- Document 01, "The shelf file", by the file's scan and the log alone: what is so exactly when a load is answered so.
use Rattle.refusal.specs.Refusal.{number}
use Rattle.refusal.specs.declared.Refusal.{Refusal}
use Rattle.base.specs.Choice.{If◌then◌else◌}
use Rattle.std.specs.Prelude.{◌≡◌, true, false, List, eqb, Result, Ok, Err}
use Rattle.section.specs.declared.Header.{Header}
use Rattle.shelf.specs.Record.{key_of}
use Rattle.file.specs.declared.Table.{Table}
use Rattle.shelf_laws.specs.History.{Entry}
use Rattle.shelf_laws.specs.Log.{held_by, Full}

-- of a file that is a table: it is loaded where its key is not held and a place is free; 13: key already held; 9: no free place
abbrev pub TableSays : Header → List Entry → Result (Unit {0}) Refusal → Type 0
TableSays h log (Ok done) = (held_by (key_of h) log ≡ false) × ¬ (Full log)
TableSays h log (Err r) =
    If eqb (number r) 13 then held_by (key_of h) log ≡ true else (If eqb (number r) 9 then (held_by (key_of h) log ≡ false) × Full log else ⊥)

-- a file with a fault is refused by the number of its first from the left, whatever is held
abbrev pub FileSays : Result Table Refusal → List Entry → Result (Unit {0}) Refusal → Type 0
FileSays (Ok t) log said = TableSays t.header log said
FileSays (Err r) log said = said ≡ Err r
