-- Document 01, "Descriptors": a trigger Tap is marked by tag 0x72, length 24 and the bytes `application/atsc-trigger`
-- (001, clause 9.1.2). Document 02, request 2, in place of "compared exactly": letters A to Z and a to z match across case,
-- the length stays 24 and no other byte gains an equal.
use Rattle.std.specs.Prelude.{ℕ, ◌+◌, List, [], ◌∷◌, Bool, false, ◌&&◌, eqb, Ok, Err, Some, None}
use Rattle.base.specs.Bytes.{byte}
use Rattle.base.specs.Below.{every}
use Rattle.descriptors.specs.Loop.{Step, step_of}
use Rattle.descriptors.specs.Letter.{matches}

-- `application/`, then `atsc-trigger`
unfoldable pub mark : List ℕ
mark =
    97 ∷ 112 ∷ 112 ∷ 108 ∷ 105 ∷ 99 ∷ 97 ∷ 116 ∷ 105 ∷ 111 ∷ 110 ∷ 47
    ∷ 97 ∷ 116 ∷ 115 ∷ 99 ∷ 45 ∷ 116 ∷ 114 ∷ 105 ∷ 103 ∷ 103 ∷ 101 ∷ 114 ∷ []

-- each of the 24 bytes from a place matches the mark's
unfoldable pub mark_at : List ℕ → ℕ → Bool
mark_at s start = every 24 (λ k. matches (byte s (start + k)) (byte mark k))

-- an answer's descriptor is the mark of a trigger Tap
abbrev pub marks : List ℕ → Step → Bool
marks s (Ok (Some d)) = eqb d.tag 0x72 && (eqb d.length 24 && mark_at s d.start)
marks s (Ok None) = false
marks s (Err r) = false

-- the descriptor at a place marks a trigger Tap
unfoldable pub is_trigger_tap : List ℕ → ℕ → Bool
is_trigger_tap s at = marks s (step_of s at)
