-- The shelf's record as a host lends it, 96 numbers of 16 bits: 64 lengths, that of section n of place p at 16p + n; four heads of
-- four numbers, that of place p at 64 + 4p: 256 + table id where the place is taken, extension, version, last; four masks, that of
-- place p at 80 + p: in a taken place bit n is 1 where section n is held; and the rest of four keys, that of place p at 84 + 3p: service_id, and
-- time_span_start as its higher and its lower 16 bits, which are looked at where the table is an NRT-IT and mean nothing of any other.
use Rattle.std.specs.Prelude.{ℕ, zero, suc, ◌+◌, ◌*◌, ◌/◌, ◌%◌, List, [], ◌∷◌, Bool, true, not, eqb, length, get_or, if◌then◌else◌}
use Rattle.base.specs.Bits.{bit}
use Rattle.berth.specs.Berth.{sections, places}
use Rattle.key.specs.declared.Key.{Key}
use Rattle.key.specs.Key.{key_from}
use Rattle.shelf.specs.Record.{Place, Shelf, no_key, free_place, empty_table, fresh, with_place}

-- where the heads begin, where the masks, and where the rest of the keys
abbrev pub heads : ℕ
heads = places * sections

abbrev pub masks : ℕ
masks = heads + 4 * places

abbrev pub rests : ℕ
rests = masks + places

-- the numbers of a record, 96
abbrev pub count : ℕ
count = rests + 3 * places

-- where the numbers of place p stand: the length of its section n, the four of its head, its mask, the three of the rest of its key
abbrev pub at_length : ℕ → ℕ → ℕ
at_length p n = sections * p + n

abbrev pub at_table : ℕ → ℕ
at_table p = heads + 4 * p

abbrev pub at_extension : ℕ → ℕ
at_extension p = heads + 1 + 4 * p

abbrev pub at_version : ℕ → ℕ
at_version p = heads + 2 + 4 * p

abbrev pub at_last : ℕ → ℕ
at_last p = heads + 3 + 4 * p

abbrev pub at_mask : ℕ → ℕ
at_mask p = masks + p

abbrev pub at_service : ℕ → ℕ
at_service p = rests + 3 * p

abbrev pub at_high : ℕ → ℕ
at_high p = rests + 1 + 3 * p

abbrev pub at_low : ℕ → ℕ
at_low p = rests + 2 + 3 * p

-- f 0, f 1, .., f (n - 1)
unfoldable pub listed : ℕ → (ℕ → ℕ) → List ℕ
listed zero f = []
listed (suc n) f = f 0 ∷ listed n (λ k. f (suc k))

-- the length of a section: 0 where it is not held; a held length 0 is read as 1, which is as wrong
abbrev pub held_length : Bool → ℕ → ℕ
held_length held size = if held then (if eqb size 0 then 1 else size) else 0

-- the length of section n of place p
abbrev pub length_in : List ℕ → ℕ → ℕ → ℕ
length_in words p n = held_length (bit (get_or words (at_mask p) 0) n) (get_or words (at_length p n) 0)

-- the sixteen lengths of a place
unfoldable pub lengths_in : List ℕ → ℕ → List ℕ
lengths_in words p = listed sections (length_in words p)

-- the key of the table in place p
unfoldable pub key_at : List ℕ → ℕ → Key
key_at words p =
    key_from
    (get_or words (at_table p) 0 % 256)
    (get_or words (at_extension p) 0)
    (get_or words (at_service p) 0)
    (get_or words (at_high p) 0 * 65536 + get_or words (at_low p) 0)

-- the table in place p, where it is taken
unfoldable pub table_in : List ℕ → ℕ → Place
table_in words p =
    record {
      taken = true;
      key = key_at words p;
      version = get_or words (at_version p) 0;
      last = get_or words (at_last p) 0;
      lengths = lengths_in words p;
    }

-- a place is taken where its head begins with 256 to 511; with any other number it is free, and nothing else is read of it
abbrev pub taken_in : List ℕ → ℕ → Bool
taken_in words p = eqb (get_or words (at_table p) 0 / 256) 1

-- the first two of a key as one number
abbrev pub number_for : Key → ℕ
number_for key = 256 + key.table + 65536 * key.extension

-- the first two numbers of a head as one: where they have 16 bits and a key's table id has 8, it is the key's number exactly where a table
-- with that table id and that extension is in the place
abbrev pub key_number : List ℕ → ℕ → ℕ
key_number words p = get_or words (at_table p) 0 + 65536 * get_or words (at_extension p) 0

-- what stands for the rest of a key in place p, as one number
abbrev pub rest_number : List ℕ → ℕ → ℕ
rest_number words p = get_or words (at_service p) 0 + 65536 * (get_or words (at_high p) 0 * 65536 + get_or words (at_low p) 0)

unfoldable pub place_in : List ℕ → ℕ → Place
place_in words p = if taken_in words p then table_in words p else free_place

-- the record that 96 numbers are
unfoldable pub shelf_in : List ℕ → Shelf
shelf_in words = record { places = place_in words 0 ∷ place_in words 1 ∷ place_in words 2 ∷ place_in words 3 ∷ [] }

-- any other count of numbers is no record: it is read as one with a place that is taken and holds nothing, which is spoiled
unfoldable pub no_record : Shelf
no_record = with_place fresh 0 (empty_table no_key 0 0)

-- the record that lent numbers are
unfoldable pub shelf_at : List ℕ → Shelf
shelf_at words = if not (eqb (length words) count) then no_record else shelf_in words
