-- The number and the values of the answer to listing a file, in the number that crosses the boundary, and what is so of it.
use Rattle.std.specs.Prelude.{ℕ, ◌≤◌, ◌≡◌, List, ◌++◌, length, drop, Result, Ok, Err}
use Rattle.base.specs.Octets.{Octets}
use Rattle.answers.specs.Answers.{Out, out, sized, size_or, Fills}
use Rattle.file_listing.specs.Listing.{text_of, Listing, listing, list_of}
use Rattle.refusal.specs.Refusal.{refusal_of}
use Rattle.refusal.specs.declared.Refusal.{Refusal}

-- what a host takes out of how many bytes the text has
abbrev pub listed_in : ℕ → Result ℕ Refusal
listed_in = size_or Ok (λ n. Err (refusal_of n))

-- what listing a file leaves
abbrev pub list_out : Listing → Out
list_out c = out (sized c.said) c.out

unfoldable pub list_lent : List ℕ → List ℕ → Out
list_lent file old = list_out (list_of file old)

-- the bytes of the longest listing: of a complete NRT-IT whose numbers have all their digits
abbrev pub largest_list : ℕ
largest_list = 421

-- and there is a file with such a list
abbrev pub LongestList : Type 0
LongestList = (file : List ℕ) × (length (text_of file) ≡ largest_list)

-- Of listing a file of bytes:
module _ (file : List ℕ) where
  -- the text has at most 421 bytes
  abbrev pub TextShort : Type 0
  TextShort = Octets file → length (text_of file) ≤ largest_list

  module _ (old : List ℕ) where
    -- so an output of that many is never too small
    abbrev pub AlwaysListed : Type 0
    AlwaysListed =
        Octets file → largest_list ≤ length old
        → list_of file old ≡ listing (Ok (length (text_of file))) (text_of file ++ drop (length (text_of file)) old)

    -- the text's size, or the refusal, comes back
    abbrev pub ListComesBack : Type 0
    ListComesBack = listed_in (list_lent file old).code ≡ (list_of file old).said

    -- a refused call leaves the output as it was; the low 8 bits are 0 exactly when the text stands there
    abbrev pub ListFills : Type 0
    ListFills = Fills (text_of file) old (list_lent file old)
