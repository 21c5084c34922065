-- How the code builds the text: a buffer that grows at its end, piece by piece.
use Rattle.std.specs.Prelude.{ℕ, ◌+◌, ◌≤◌, ◌≡◌, List, ◌++◌, take, replicate}
use Rattle.file_listing.specs.declared.Text.{Text}

-- what is written of a text
abbrev pub shown : Text → List ℕ
shown t = take t.size t.bytes

-- the room for a text: a line of 78 bytes, sixteen of 26 and sixteen of 14, with ten digits for a time and five for every other number
abbrev pub room : ℕ
room = 718

-- nothing is written yet
abbrev pub empty : Text
empty = record { bytes = replicate room 0; size = 0 }

-- a text that grew by some bytes, at most so many
pub record Grew (more : List ℕ) (most : ℕ) (before after : Text) : Type 0 where
  pub shows : shown after ≡ shown before ++ more
  pub within : after.size ≤ before.size + most
