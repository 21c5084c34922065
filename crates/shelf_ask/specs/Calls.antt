-- What the code takes out of any numbers for a table, also where no record has it.
use Rattle.std.specs.Prelude.{ℕ, ◌+◌, List, not, ltb, if◌then◌else◌, Option, Some, None}
use Rattle.base.specs.Below.{lowest}
use Rattle.base.specs.Bits.{bit}
use Rattle.tables.specs.declared.Table.{Table}
use Rattle.shelf.specs.Calls.{key_found, version_among, last_among, lengths_among}

-- where the place is taken it is the place's table
abbrev pub table_among : List ℕ → ℕ → Table
table_among words p =
    record {
      key = key_found words p;
      version = version_among words p;
      last = last_among words p;
      lengths = lengths_among words p;
    }

-- a number below an end, where there is one
abbrev pub found_below : ℕ → ℕ → Option ℕ
found_below end n = if ltb n end then Some n else None

-- the lowest number from 0 to the last whose bit is 0
unfoldable pub gap_among : ℕ → ℕ → Option ℕ
gap_among mask last = found_below (last + 1) (lowest (last + 1) (λ n. not (bit mask n)))
