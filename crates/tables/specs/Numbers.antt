-- A table in the numbers that a host is told it in, whether it stands on a shelf or in a file.
use Rattle.std.specs.Prelude.{ℕ, ◌/◌, ◌%◌, List, ◌∷◌}
use Rattle.answers.specs.Answers.{Out, told, puts}
use Rattle.tables.specs.declared.Table.{Table}

-- the key: table id, extension, service_id, and time_span_start as its higher and its lower 16 bits; version, last, and the length of each of the
-- sixteen sections, 0 where it is not there
abbrev pub table_numbers : Table → List ℕ
table_numbers t =
    t.key.table
    ∷ t.key.extension
    ∷ t.key.service
    ∷ (t.key.start / 65536)
    ∷ (t.key.start % 65536)
    ∷ t.version
    ∷ t.last
    ∷ t.lengths

-- they stand at the front of a lent buffer, which stays as it was past them; 15 where they do not fit
unfoldable pub table_put : Table → List ℕ → Out
table_put t fields = puts (told 0 (table_numbers t)) fields
