-- The number and the values of the answer to listing a programme list, in the number that crosses the boundary, and what is so of it.
use Rattle.std.specs.Prelude.{ℕ, ◌*◌, List, Result, Ok, Err}
use Rattle.answers.specs.Answers.{Out, out, size_or}
use Rattle.programme_listing.specs.Listing.{Listing, list_of}
use Rattle.refusal.specs.Refusal.{number, refusal_of}
use Rattle.refusal.specs.declared.Refusal.{Refusal}

-- a size from bit 8 up, in the 56 bits above: the text may have more than 65,535 bytes
abbrev pub long_code : ℕ → ℕ
long_code n = 256 * n

-- how many bytes the text has, or the refusal alone
abbrev pub listed_code : Result ℕ Refusal → ℕ
listed_code (Ok n) = long_code n
listed_code (Err r) = number r

-- what a host takes out of it
abbrev pub listed_in : ℕ → Result ℕ Refusal
listed_in = size_or Ok (λ n. Err (refusal_of n))

-- what listing a file leaves
abbrev pub list_out : Listing → Out
list_out c = out (listed_code c.said) c.out

unfoldable pub list_lent : List ℕ → List ℕ → Out
list_lent file old = list_out (list_of file old)
