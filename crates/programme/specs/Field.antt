-- Source document 004, Table 6.5: how a field stands in bytes.
use Rattle.std.specs.Prelude.{ℕ, zero, suc, ◌+◌, ◌*◌, ◌%◌, ◌^◌, Bool, true, false, List, ltb, length, if◌then◌else◌}
use Rattle.base.specs.Bytes.{byte}

-- the n bytes from a place as one number, high byte first (uimsbf)
unfoldable pub number : List ℕ → ℕ → ℕ → ℕ
number s at zero = 0
number s at (suc n) = number s at n * 256 + byte s (at + n)

-- the number in a field's first n bytes; 0 where it has fewer
unfoldable pub number_in : ℕ → List ℕ → ℕ
number_in n field = if ltb (length field) n then 0 else number field 0 n

-- a number where a flag is 1, else 0: how many bytes a field has that the flag includes, and its value
abbrev pub only : Bool → ℕ → ℕ
only true n = n
only false n = 0

-- a field of so many bits at the end of n bytes; bits above it, where there are any, are reserved, and disregarded
abbrev pub low : List ℕ → ℕ → ℕ → ℕ → ℕ
low s at n bits = number s at n % 2 ^ bits
