-- Document 01, "The shelf" and number 18: the record, when it is spoiled, where a key is held, and which place is free.
use Rattle.std.specs.Prelude.{ℕ, List, Bool, true, false, not, ◌&&◌, ◌||◌, ◌≡◌, ◌<◌, ltb, eqb, get_or, set, replicate}
use Rattle.base.specs.Below.{some, lowest}
use Rattle.section.specs.declared.Header.{Header}
use Rattle.berth.specs.Berth.{places, sections, berth_size}
use Rattle.key.specs.declared.Key.{Key}
use Rattle.key.specs.Key.{same_key}

-- a place: free, or a table with the byte length of each of its sixteen sections; 0 where a section is not held. A held length 0
-- cannot be said so: Layout reads it as 1, which is wrong as well
pub record Place : Type 0 where
  pub taken : Bool
  pub key : Key
  pub version : ℕ
  pub last : ℕ
  pub lengths : List ℕ

-- four places; what is read in numbers has four, of sixteen lengths each
pub record Shelf : Type 0 where
  pub places : List Place

-- what stands for the key where there is no table
abbrev pub no_key : Key
no_key = record { table = 0; extension = 0; service = 0; start = 0 }

-- a place that is free, as a fresh shelf has it
abbrev pub free_place : Place
free_place =
    record {
      taken = false;
      key = no_key;
      version = 0;
      last = 0;
      lengths = replicate sections 0;
    }

-- a fresh shelf has four free places
unfoldable pub fresh : Shelf
fresh = record { places = replicate places free_place }

-- a table that holds nothing yet
abbrev pub empty_table : Key → ℕ → ℕ → Place
empty_table key version last =
    record { taken = true; key = key; version = version; last = last; lengths = replicate sections 0 }

-- a table with another length of section n
abbrev pub with_length : Place → ℕ → ℕ → Place
with_length place n size =
    record {
      taken = place.taken;
      key = place.key;
      version = place.version;
      last = place.last;
      lengths = set place.lengths n size;
    }

-- place p; past the end of the list there is none, which is as good as a free one
abbrev pub place_at : Shelf → ℕ → Place
place_at shelf p = get_or shelf.places p free_place

-- the shelf with another place p
abbrev pub with_place : Shelf → ℕ → Place → Shelf
with_place shelf p place = record { places = set shelf.places p place }

-- the held length of section n; 0 where it is not held
abbrev pub length_at : Place → ℕ → ℕ
length_at place n = get_or place.lengths n 0

abbrev pub holds : Place → ℕ → Bool
holds place n = not (eqb (length_at place n) 0)

-- a table's key is that of its sections
abbrev pub key_of : Header → Key
key_of h = h.key

-- 18: a held number above last, or a held length outside 8 to 1,024
abbrev pub wrong_at : Place → ℕ → Bool
wrong_at place n =
    holds place n && (ltb place.last n || (ltb (length_at place n) 8 || ltb berth_size (length_at place n)))

-- 18: in a taken place, a version above 31, a last above 15, a held number or length that is wrong, or nothing held
unfoldable pub spoiled_place : Place → Bool
spoiled_place place =
    place.taken
    && (ltb 31 place.version
    || (ltb 15 place.last
    || (some sections (wrong_at place) || not (some sections (holds place)))))

-- two taken places with one key
unfoldable pub alike : Place → Place → Bool
alike a b = a.taken && (b.taken && same_key a.key b.key)

-- 18: shelf record spoiled
unfoldable pub spoiled_of : Shelf → Bool
spoiled_of shelf =
    some places (λ p. spoiled_place (place_at shelf p))
    || some places (λ q. some q (λ p. alike (place_at shelf p) (place_at shelf q)))

-- the table with that key is in this place
unfoldable pub has_key : Place → Key → Bool
has_key place key = place.taken && same_key place.key key

-- the place of a key, or 4 where it is not held
unfoldable pub place_of : Shelf → Key → ℕ
place_of shelf key = lowest places (λ p. has_key (place_at shelf p) key)

-- the lowest free place, or 4 where there is none
unfoldable pub free_of : Shelf → ℕ
free_of shelf = lowest places (λ p. not (place_at shelf p).taken)

-- shelf records are equal when their taken places are ("What the promises have to say")
pub record Same (a b : Shelf) : Type 0 where
  pub takes : (p : ℕ) → p < places → (place_at a p).taken ≡ (place_at b p).taken
  pub equal : (p : ℕ) → p < places → (place_at a p).taken ≡ true → place_at a p ≡ place_at b p
