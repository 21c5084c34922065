-- What the shelf's calls write into a record's numbers.
use Rattle.std.specs.Prelude.{ℕ, ◌+◌, ◌-◌, ◌/◌, ◌%◌, ◌^◌, List, eqb, ltb, get_or, set, if◌then◌else◌}
use Rattle.std.specs.Int.Bits.{bit_or}
use Rattle.key.specs.declared.Key.{Key}
use Rattle.shelf.specs.Layout.{heads, masks, rests, count, at_length, at_table, at_extension, at_version, at_last, at_mask, at_service, at_high, at_low, listed}

-- section n of place p is held, with that length
unfoldable pub held_in : List ℕ → ℕ → ℕ → ℕ → List ℕ
held_in words p n size = set (set words (at_length p n) size) (at_mask p) (bit_or (get_or words (at_mask p) 0) (2 ^ n))

-- the head and the mask of place p
unfoldable pub row_in : List ℕ → ℕ → ℕ → ℕ → ℕ → ℕ → ℕ → List ℕ
row_in words p table extension version last mask =
    set (set (set (set (set words (at_table p) table) (at_extension p) extension) (at_version p) version) (at_last p) last) (at_mask p) mask

-- the rest of the key of place p
unfoldable pub rest_in : List ℕ → ℕ → Key → List ℕ
rest_in words p key =
    set (set (set words (at_service p) key.service) (at_high p) (key.start / 65536)) (at_low p) (key.start % 65536)

-- place p is free by the first number of its head, which is p; that 0, 0, 0 follow and the mask is 1 means nothing to 18, and the rest of the key stays. The quick pass
-- (`shelf_check`) stops at no such place while its lengths are from 8 to 1,024 and no other head begins with p, 0, as none does that is written here
abbrev pub freed_in : List ℕ → ℕ → List ℕ
freed_in words p = row_in words p p 0 0 0 1

-- place p is taken by a table that holds nothing yet
abbrev pub head_in : List ℕ → ℕ → Key → ℕ → ℕ → List ℕ
head_in words p key version last = rest_in (row_in words p (256 + key.table) key.extension version last 0) p key

-- number k of a fresh record: each length is 8, the head of place p is p, 0, 0, 0, each mask is 1 and the rest of each key 0
abbrev pub fresh_number : ℕ → ℕ
fresh_number k = if ltb k heads then 8 else (if ltb k masks then (if eqb (k % 4) 0 then (k - heads) / 4 else 0) else (if ltb k rests then 1 else 0))

unfoldable pub fresh_words : List ℕ
fresh_words = listed count fresh_number
