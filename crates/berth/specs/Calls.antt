-- What this layer's calls do, on any store and any numbers: a call that names no berth of a whole store changes nothing.
use Rattle.std.specs.Prelude.{ℕ, List, ◌++◌, Bool, ◌&&◌, ltb, leb, eqb, length, drop, if◌then◌else◌, Option, Some, None}
use Rattle.base.specs.Bytes.{same}
use Rattle.berth.specs.Berth.{berth_size, places, sections, store_size, begins_at, put, wiped, wiped_where, standing}

-- a store of that size is whole, and has place p
unfoldable pub is_place : ℕ → ℕ → Bool
is_place size p = eqb size store_size && ltb p places

-- .. and in it berth n
unfoldable pub is_berth : ℕ → ℕ → ℕ → Bool
is_berth size p n = is_place size p && ltb n sections

-- where that begins
unfoldable pub begin_in : ℕ → ℕ → ℕ → Option ℕ
begin_in size p n = if is_berth size p n then Some (begins_at berth_size p n) else None

-- .. and so many bytes go into it
unfoldable pub goes_in : ℕ → ℕ → ℕ → ℕ → Bool
goes_in size p n count = is_berth size p n && leb count berth_size

unfoldable pub put_in : List ℕ → ℕ → ℕ → List ℕ → List ℕ
put_in store p n bytes = if goes_in (length store) p n (length bytes) then put store p n bytes else store

unfoldable pub wiped_in : List ℕ → ℕ → ℕ → List ℕ
wiped_in store p n = if is_berth (length store) p n then wiped store p n else store

-- of the berths of place p those that a test picks
unfoldable pub wiped_where_in : (ℕ → Bool) → List ℕ → ℕ → List ℕ
wiped_where_in picks store p = if is_place (length store) p then wiped_where picks sections store p else store

-- the first bytes of the berth are these
unfoldable pub stands_in : List ℕ → ℕ → ℕ → ℕ → List ℕ → Bool
stands_in store p n count bytes = goes_in (length store) p n count && same (standing store p n count) bytes

-- the first bytes of the berth, at the front of an output that has room for them
unfoldable pub copied_in : List ℕ → ℕ → ℕ → ℕ → List ℕ → List ℕ
copied_in store p n count out =
    if goes_in (length store) p n count && leb count (length out) then standing store p n count ++ drop count out else out
