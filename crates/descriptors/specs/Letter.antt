-- Document 02, request 2: letters A to Z and a to z match across case (RFC 2045, section 5.1, of media types and subtypes),
-- and no other byte gains an equal.
use Rattle.std.specs.Prelude.{ℕ, ◌+◌, Bool, ◌&&◌, ◌||◌, eqb, leb}

-- the first is a letter A (65) to Z (90) and the second the same letter a (97) to z (122), which is 32 more
unfoldable pub across_case : ℕ → ℕ → Bool
across_case capital small = leb 65 capital && (leb capital 90 && eqb small (capital + 32))

-- two bytes match: they are one byte, or one of them is a letter A to Z and the other the same letter a to z
unfoldable pub matches : ℕ → ℕ → Bool
matches found marked = eqb found marked || (across_case found marked || across_case marked found)
