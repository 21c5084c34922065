-- What is so of listing a programme list.
use Rattle.std.specs.Prelude.{ℕ, ◌≤◌, ◌≡◌, List, ◌++◌, ◌↔◌, length, drop, Result, Ok}
use Rattle.answers.specs.Answers.{Out, refusal_in, size_in}
use Rattle.programme_listing.specs.Listing.{text_of, listing, list_of}
use Rattle.programme_listing.specs.Answer.{listed_in, list_lent}
use Rattle.refusal.specs.declared.Refusal.{Refusal}

-- a room for any text: a first line of at most 78 bytes, at most 20 bytes for each byte of sixteen sections of 1,024, and a last line of 10
abbrev pub room : ℕ
room = 327768

-- Of a call that fills an output with a text, or is refused:
pub record Filled (text old : List ℕ) (left : Out) : Type 0 where
  -- a refused call leaves the output as it was
  pub untouched : ¬ (refusal_in left.code ≡ 0) → left.out ≡ old
  -- the low 8 bits are 0 exactly when the text fits
  pub accepted : (refusal_in left.code ≡ 0) ↔ (length text ≤ length old)
  -- then the text stands at the output's front, which past it stays as it was,
  pub stands : refusal_in left.code ≡ 0 → left.out ≡ text ++ drop (length text) old
  -- and its size comes back out of the answer
  pub size : refusal_in left.code ≡ 0 → size_in left.code ≡ length text

module _ (file : List ℕ) where
  -- no text has more bytes than the room
  abbrev pub TextShort : Type 0
  TextShort = length (text_of file) ≤ room

  module _ (old : List ℕ) where
    -- so an output of that many is never too small
    abbrev pub AlwaysListed : Type 0
    AlwaysListed =
        room ≤ length old
        → list_of file old ≡ listing (Ok (length (text_of file))) (text_of file ++ drop (length (text_of file)) old)

    -- two answers that keep the promise are equal
    abbrev pub OneListing : Type 0
    OneListing =
        (r q : Result ℕ Refusal) (after after' : List ℕ) → listing r after ≡ list_of file old → listing q after' ≡ list_of file old
        → (r ≡ q) × (after ≡ after')

    -- the text's size, or the refusal, comes back
    abbrev pub ListComesBack : Type 0
    ListComesBack = listed_in (list_lent file old).code ≡ (list_of file old).said

    -- what the call leaves
    abbrev pub ListFills : Type 0
    ListFills = Filled (text_of file) old (list_lent file old)
