-- Document 01, number 11 in its own words: "file number cut off, not shortest, or above 65,535". The bytes `s` are those of the file
-- from the number's place to the file's end.
use Rattle.std.specs.Prelude.{ℕ, ◌<◌, ◌≤◌, ◌≡◌, List, [], ◌∷◌, ◌++◌, ◌⊎◌, length}
use Rattle.file_number.specs.Number.{largest, worth}

-- the top bit is set on each
abbrev pub Continued : List ℕ → Type 0
Continued [] = Unit {0}
Continued (b ∷ bs) = (128 ≤ b) × Continued bs

-- a number's groups stand at the front of the bytes: the top bit is set on every group but the last
pub record Groups (s more : List ℕ) (last : ℕ) : Type 0 where
  pub rest : List ℕ
  pub stand : s ≡ more ++ (last ∷ rest)
  pub go_on : Continued more
  pub ends : last < 128

-- cut off: the file ends before a last group, or before any
abbrev pub CutOff : List ℕ → Type 0
CutOff s = Continued s

-- not shortest: the last of several groups is 0
abbrev pub NotShortest : List ℕ → Type 0
NotShortest s = (more : List ℕ) × (1 ≤ length more) × Groups s more 0

-- above 65,535
abbrev pub AboveLargest : List ℕ → Type 0
AboveLargest s = (more : List ℕ) × (last : ℕ) × Groups s more last × (largest < worth (more ++ (last ∷ [])))

-- 11
abbrev pub Unreadable : List ℕ → Type 0
Unreadable s = CutOff s ⊎ (NotShortest s ⊎ AboveLargest s)
