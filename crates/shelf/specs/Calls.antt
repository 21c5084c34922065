-- What this layer's calls find, on any numbers: what is no record has no place, and what is asked of no place is 0. (`shelf_at` reads what is no
-- record as a spoiled one, and no call of document 01 gets past 18 there.) What stands in a free place is read as in a taken one, and means nothing.
use Rattle.std.specs.Prelude.{ℕ, ◌+◌, ◌*◌, List, Bool, ◌&&◌, eqb, ltb, length, get_or, if◌then◌else◌}
use Rattle.berth.specs.Berth.{sections, places}
use Rattle.key.specs.declared.Key.{Key}
use Rattle.shelf.specs.Record.{no_key, place_of, free_of}
use Rattle.shelf.specs.Layout.{count, key_number, rest_number, key_at, heads, masks, listed, length_in, shelf_in}

-- so many numbers are a record, and it has place p
abbrev pub has_place : ℕ → ℕ → Bool
has_place size p = eqb size count && ltb p places

-- .. and n is a number of a section, held or not
abbrev pub has_section : ℕ → ℕ → ℕ → Bool
has_section size p n = has_place size p && ltb n sections

-- what is found in lent numbers
unfoldable pub place_among : List ℕ → Key → ℕ
place_among words key = if eqb (length words) count then place_of (shelf_in words) key else places

unfoldable pub free_among : List ℕ → ℕ
free_among words = if eqb (length words) count then free_of (shelf_in words) else places

unfoldable pub key_among : List ℕ → ℕ → ℕ
key_among words p = if has_place (length words) p then key_number words p else 0

unfoldable pub rest_among : List ℕ → ℕ → ℕ
rest_among words p = if has_place (length words) p then rest_number words p else 0

unfoldable pub key_found : List ℕ → ℕ → Key
key_found words p = if has_place (length words) p then key_at words p else no_key

-- the number of place p where the first place's stands at a place of the record and the next place's so much later
unfoldable pub number_among : List ℕ → ℕ → ℕ → ℕ → ℕ
number_among words first each p = if has_place (length words) p then get_or words (first + each * p) 0 else 0

unfoldable pub version_among : List ℕ → ℕ → ℕ
version_among words p = number_among words (heads + 2) 4 p

unfoldable pub last_among : List ℕ → ℕ → ℕ
last_among words p = number_among words (heads + 3) 4 p

unfoldable pub mask_among : List ℕ → ℕ → ℕ
mask_among words p = number_among words masks 1 p

unfoldable pub length_among : List ℕ → ℕ → ℕ → ℕ
length_among words p n = if has_section (length words) p n then length_in words p n else 0

abbrev pub lengths_among : List ℕ → ℕ → List ℕ
lengths_among words p = listed sections (length_among words p)
