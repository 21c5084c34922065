-- The quick pass is a first look at the numbers, whether a place is taken or not; at the rest of the keys only where two heads begin alike. Where it says yes, FineColumns, FineMasks and Apart hold, and the
-- three together are enough for a record that is not spoiled; where it does not, 18 is asked in its own words.
use Rattle.std.specs.Prelude.{ℕ, ◌+◌, ◌*◌, ◌/◌, ◌%◌, ◌^◌, ◌<◌, ◌≤◌, ◌≡◌, Bool, false, List, [], ◌∷◌, get_or, eqb, if◌then◌else◌}
use Rattle.base.specs.Below.{some}
use Rattle.berth.specs.Berth.{berth_size, places, sections}
use Rattle.shelf.specs.Record.{alike}
use Rattle.shelf.specs.Layout.{heads, at_length, at_table, at_last, at_mask, key_number, rest_number, place_in}
use Rattle.key.specs.Key.{nrt_it}

-- the most that each number of the heads may be
abbrev pub head_bounds : List ℕ
head_bounds = 65535 ∷ 65535 ∷ 31 ∷ 15 ∷ 65535 ∷ 65535 ∷ 31 ∷ 15 ∷ 65535 ∷ 65535 ∷ 31 ∷ 15 ∷ 65535 ∷ 65535 ∷ 31 ∷ 15 ∷ []

abbrev pub FineLength : List ℕ → ℕ → Type 0
FineLength words at = (8 ≤ get_or words at 0) × (get_or words at 0 ≤ berth_size)

-- of each place the length of section k, which for the first stands at k, is from 8 to 1,024, and number k of the heads is not too high
pub record FineColumn (words : List ℕ) (k : ℕ) : Type 0 where
  pub first : FineLength words k
  pub second : FineLength words (at_length 1 k)
  pub third : FineLength words (at_length 2 k)
  pub fourth : FineLength words (at_length 3 k)
  pub head : get_or words (heads + k) 0 ≤ get_or head_bounds k 0

abbrev pub FineColumns : List ℕ → Type 0
FineColumns words = (k : ℕ) → k < sections → FineColumn words k

-- the mask of a place from its last number on. A number of 32 bits is shifted by less than 32, which a last that is fine is
abbrev pub from_last : List ℕ → ℕ → ℕ
from_last words p = get_or words (at_mask p) 0 / 2 ^ (get_or words (at_last p) 0 % 32)

-- of a last under 32: nothing above it is held
pub record NoneAbove (words : List ℕ) (p : ℕ) : Type 0 where
  pub low : from_last words p ≤ 1

-- something is held, and the mask has at most 16 bits
pub record OneHeld (words : List ℕ) (p : ℕ) : Type 0 where
  pub some : get_or words (at_mask p) 0 ≡ 0 → ⊥
  pub fits : get_or words (at_mask p) 0 < 65536

-- two taken places have one key
unfoldable pub any_alike : List ℕ → Bool
any_alike words = some places (λ q. some q (λ p. alike (place_in words p) (place_in words q)))

-- in each place something is held and nothing above last
pub record FineMasks (words : List ℕ) : Type 0 where
  pub low : (p : ℕ) → p < places → NoneAbove words p
  pub held : (p : ℕ) → p < places → OneHeld words p

-- no two taken places have one key
pub record Apart (words : List ℕ) : Type 0 where
  pub pair : (p q : ℕ) → p < q → q < places → alike (place_in words p) (place_in words q) ≡ false

-- the first two numbers of a head as one, and above them, of an NRT-IT, service_id and the lower 16 bits of time_span_start
unfoldable pub wide_number : List ℕ → ℕ → ℕ
wide_number words p =
    if eqb (get_or words (at_table p) 0) (256 + nrt_it)
    then key_number words p + rest_number words p % 2 ^ 32 * 2 ^ 32
    else key_number words p
