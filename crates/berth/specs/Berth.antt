-- Document 01, "The shelf": the store as berths. Where a berth begins and how it is filled is said over its size.
use Rattle.std.specs.Prelude.{ℕ, zero, suc, ◌+◌, ◌-◌, ◌*◌, List, ◌++◌, Bool, length, take, drop, if◌then◌else◌}
use Rattle.base.specs.Bytes.{part, zeros}
use Rattle.section.specs.Section.{largest_section, most_sections}

-- a berth's bytes, 1,024: the largest section fills it
abbrev pub berth_size : ℕ
berth_size = largest_section

-- the sections of a table, 16, and the places of a shelf
abbrev pub sections : ℕ
sections = most_sections

abbrev pub places : ℕ
places = 4

-- the bytes that the caller lends, 65,536
abbrev pub store_size : ℕ
store_size = places * (sections * berth_size)

-- section n of the table in place p begins at size × (16p + n)
abbrev pub begins_at : ℕ → ℕ → ℕ → ℕ
begins_at size p n = size * (sections * p + n)

-- the store with other bytes at a place, as many as are given
unfoldable pub laid : List ℕ → ℕ → List ℕ → List ℕ
laid store at bytes = take at store ++ (bytes ++ drop (at + length bytes) store)

-- a section in its berth: its bytes, and the rest of the berth is zeros
unfoldable pub padded : ℕ → List ℕ → List ℕ
padded size bytes = bytes ++ zeros (size - length bytes)

-- the store after section n of the table in place p is stored
unfoldable pub put : List ℕ → ℕ → ℕ → List ℕ → List ℕ
put store p n bytes = laid store (begins_at berth_size p n) (padded berth_size bytes)

-- the store after berth n of place p is zeroed
unfoldable pub wiped : List ℕ → ℕ → ℕ → List ℕ
wiped store p n = laid store (begins_at berth_size p n) (zeros berth_size)

-- the store after those of the first k berths of place p that a test picks are zeroed
unfoldable pub wiped_where : (ℕ → Bool) → ℕ → List ℕ → ℕ → List ℕ
wiped_where picks zero store p = store
wiped_where picks (suc k) store p =
    if picks k then wiped (wiped_where picks k store p) p k else wiped_where picks k store p

-- the first bytes of berth n of place p
unfoldable pub standing : List ℕ → ℕ → ℕ → ℕ → List ℕ
standing store p n count = part store (begins_at berth_size p n) count
