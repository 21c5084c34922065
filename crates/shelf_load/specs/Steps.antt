-- The steps of loading: what an accepted file says of its sections, and its table, loaded.
use Rattle.std.specs.Prelude.{ℕ, ◌+◌, ◌<◌, ◌≤◌, ◌≡◌, ◌⊎◌, List, length, get_or}
use Rattle.berth.specs.Berth.{berth_size, sections}
use Rattle.shelf.specs.Record.{free_of}
use Rattle.shelf.specs.Layout.{shelf_at}
use Rattle.file.specs.declared.Table.{Table}
use Rattle.shelf_load.specs.Load.{table_of}
use Rattle.shelf_load.specs.On.{Leaving, leaving, table_by}

-- each section that was found lies in the file, fits a berth, and has no number above the last, which is below 16
unfoldable pub Within : List ℕ → List ℕ → List ℕ → ℕ → Type 0
Within file starts lengths last =
    (last < sections)
    × ((n : ℕ)
    → (get_or lengths n 0 ≡ 0)
    ⊎ ((get_or starts n 0 + get_or lengths n 0 ≤ length file) × (get_or lengths n 0 ≤ berth_size) × (n ≤ last)))

-- the table of a file, loaded on lent numbers
unfoldable pub table_on : List ℕ → List ℕ → List ℕ → Table → Leaving
table_on words store file table =
    leaving
    (table_of (shelf_at words) store file table).said
    (table_by words (free_of (shelf_at words)) table (table_of (shelf_at words) store file table).said)
    (table_of (shelf_at words) store file table).store
