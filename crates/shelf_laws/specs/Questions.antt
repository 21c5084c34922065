-- Document 01, "The shelf" and "The shelf file", by the log alone: what a question is answered. The refusals in their order: 14; of a copy
-- 16 and 15; of a save 15.
use Rattle.std.specs.Prelude.{ℕ, ◌+◌, List, [], ◌∷◌, ◌++◌, Bool, not, ◌&&◌, ltb, length, drop, if◌then◌else◌, Result, Ok, Err, Option, Some, None}
use Rattle.refusal.specs.declared.Refusal.{Refusal}
use Rattle.refusal.specs.declared.Refusal.TheVariants.{TableNotHeld, OutputTooSmall, SectionNotHeld}
use Rattle.base.specs.Choice.{Row, ◌if◌, first}
use Rattle.base.specs.Below.{every, lowest}
use Rattle.berth.specs.Berth.{sections}
use Rattle.key.specs.declared.Key.{Key}
use Rattle.shelf_ask.specs.Ask.{Copy, copy}
use Rattle.file.specs.Layout.{file_of, chosen}
use Rattle.shelf_save.specs.Save.{Save, refuse, unsaved, written}
use Rattle.shelf_laws.specs.History.{Question, Reply, Entry, copied, wholly, lacking, saved}
use Rattle.shelf_laws.specs.Log.{held_by, since, last_since, bytes_since}

module _ (key : Key) (log : List Entry) where
  -- 14: table not held
  abbrev pub unheld : Row
  unheld = TableNotHeld if not (held_by key log)

  -- n is one of the sixteen, and section n was accepted or loaded since the table last began
  abbrev pub has : ℕ → Bool
  has n = ltb n sections && since key log n

  -- the bytes with which it was last accepted or loaded, and output past them as it was
  abbrev pub copy_by : ℕ → List ℕ → Copy
  copy_by n out =
      first (λ r. copy (Err r) out)
      (unheld ∷ SectionNotHeld if not (has n) ∷ OutputTooSmall if ltb (length out) (length (bytes_since key log n)) ∷ [])
      (copy (Ok (length (bytes_since key log n))) (bytes_since key log n ++ drop (length (bytes_since key log n)) out))

  -- every section from 0 to its last
  abbrev pub all_since : Bool
  all_since = every (last_since key log + 1) (since key log)

  abbrev pub whole_by : Result Bool Refusal
  whole_by = first Err (unheld ∷ []) (Ok all_since)

  -- the lowest number from 0 to its last that was not; none where all were
  abbrev pub missing_by : Result (Option ℕ) Refusal
  missing_by =
      first Err (unheld ∷ [])
      (Ok (if all_since then None else Some (lowest (last_since key log + 1) (λ n. not (since key log n)))))

  -- the file of the sections since, by rising number
  abbrev pub file_by : List ℕ
  file_by = file_of (chosen sections (since key log) (bytes_since key log))

  abbrev pub save_by : List ℕ → Save
  save_by out = first (refuse out) (unheld ∷ unsaved file_by out) (written file_by out)

abbrev pub reply_by : List Entry → Question → Reply
reply_by log (Question.copy key n out) = copied (copy_by key log n out)
reply_by log (Question.whole key) = wholly (whole_by key log)
reply_by log (Question.missing key) = lacking (missing_by key log)
reply_by log (Question.save key out) = saved (save_by key log out)
