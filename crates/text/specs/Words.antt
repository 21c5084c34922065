-- Text as bytes, as the lister has it, with numbers of up to thirteen digits and with names whose bytes may be any.
use Rattle.std.specs.Prelude.{ℕ, ◌+◌, ◌/◌, ◌%◌, Bool, not, ◌&&◌, List, [], ◌∷◌, ◌++◌, ltb, leb, eqb, if◌then◌else◌}
use Prim.Native.String.{String}
use Rattle.file_listing.specs.Words.{ascii, digits}

-- a number up to 9,999,999,999,999, without leading zeros
unfoldable pub decimal : ℕ → List ℕ
decimal n = digits 12 n

-- a word and a number
abbrev pub field : String → ℕ → List ℕ
field word n = ascii word ++ decimal n

-- a hexadecimal digit: 0 to 9, A to F
unfoldable pub hex_digit : ℕ → ℕ
hex_digit d = if ltb d 10 then 48 + d else 55 + d

-- a byte that is shown as it is: from 32 to 126, other than 92
unfoldable pub plain : ℕ → Bool
plain b = leb 32 b && (leb b 126 && not (eqb b 92))

-- each other byte is \x and two hexadecimal digits: \x0A
unfoldable pub shown : ℕ → List ℕ
shown b = if plain b then b ∷ [] else (92 ∷ 120 ∷ hex_digit (b / 16) ∷ hex_digit (b % 16) ∷ [])

-- the bytes of a name
unfoldable pub escaped : List ℕ → List ℕ
escaped [] = []
escaped (b ∷ bs) = shown b ++ escaped bs
