-- Document 01's faults of a file, each told by how the file is made up before it: the rows of 11 and 12, and "a fault inside a section gives that
-- section's own number, 2 to 8", or 46 (request 4). "Loading reads left to right and the first fault from the left gives the answer."
use Rattle.std.specs.Prelude.{ℕ, ◌<◌, ◌≤◌, ◌≡◌, List, [], ◌∷◌, ◌++◌, ◌⊎◌, length}
use Rattle.std.specs.Prelude.{Ok, Err}
use Rattle.refusal.specs.declared.Refusal.{Refusal}
use Rattle.refusal.specs.declared.Refusal.TheVariants.{BadNumber, BadFile}
use Rattle.section.specs.Section.{key_in, version, section_number, last_section_number, header_of, read_of}
use Rattle.file_number.specs.Number.{largest, spelt}
use Rattle.file_number.specs.Unreadable.{Unreadable}
use Rattle.file.specs.Layout.{form, fewest, most_counted, shortest, longest, listed, Rising}

-- sections without a fault: sound, of one table, their numbers rising
abbrev pub Good : List (List ℕ) → Type 0
Good [] = Unit {0}
Good (s ∷ ss) = Rising (header_of s) 0 (s ∷ ss)

-- the file begins without a fault: form 1, a count n of 1 to 16 and these sections, which each use below holds to the count; the
-- rest follows
pub record Begins (file : List ℕ) (n : ℕ) (ss : List (List ℕ)) (rest : List ℕ) : Type 0 where
  pub some : fewest ≤ n
  pub few : n ≤ most_counted
  pub good : Good ss
  pub stands : file ≡ spelt form ++ (spelt n ++ (listed ss ++ rest))

-- .. and by its count another section is to come
pub record ToCome (file : List ℕ) (ss : List (List ℕ)) (rest : List ℕ) : Type 0 where
  pub n : ℕ
  pub begins : Begins file n ss rest
  pub left : length ss < n

-- .. which has a length of 8 to 1,024 and these bytes, all in the file
pub record Comes (file : List ℕ) (ss : List (List ℕ)) (s : List ℕ) : Type 0 where
  pub after : List ℕ
  pub to_come : ToCome file ss (spelt (length s) ++ (s ++ after))
  pub low : shortest ≤ length s
  pub high : length s ≤ longest

-- other key, version or last number
abbrev pub Differs : List ℕ → List ℕ → Type 0
Differs a b =
    ¬ (key_in a ≡ key_in b)
    ⊎ (¬ (version a ≡ version b) ⊎ ¬ (last_section_number a ≡ last_section_number b))

-- the first fault of a file from the left, and its refusal
pub data Fault (file : List ℕ) : Refusal → Type 0 where
  -- the form: 11; form not 1
  form-unreadable : Unreadable file → Fault file BadNumber
  form-not-1 : (n : ℕ) (rest : List ℕ) → file ≡ spelt n ++ rest → n ≤ largest → ¬ (n ≡ form) → Fault file BadFile
  -- the count: 11; count not 1 to 16
  count-unreadable : (rest : List ℕ) → file ≡ spelt form ++ rest → Unreadable rest → Fault file BadNumber
  count-not-1-to-16 : (n : ℕ) (rest : List ℕ) → file ≡ spelt form ++ (spelt n ++ rest) → n ≤ largest
      → (n < fewest) ⊎ (most_counted < n) → Fault file BadFile
  -- at a section: 11; length not 8 to 1,024; bytes run past the file
  length-unreadable : (ss : List (List ℕ)) (rest : List ℕ) → ToCome file ss rest → Unreadable rest → Fault file BadNumber
  length-not-8-to-1024 : (ss : List (List ℕ)) (size : ℕ) (rest : List ℕ) → ToCome file ss (spelt size ++ rest) → size ≤ largest
      → (size < shortest) ⊎ (longest < size) → Fault file BadFile
  past-the-file : (ss : List (List ℕ)) (size : ℕ) (rest : List ℕ) → ToCome file ss (spelt size ++ rest) → shortest ≤ size
      → size ≤ longest → length rest < size → Fault file BadFile
  -- .. then its own number, 2 to 8 or 46
  own-number : (ss : List (List ℕ)) (s : List ℕ) → Comes file ss s → (r : Refusal) → read_of s ≡ Err r → Fault file r
  -- .. then keys, versions or lasts differ from the first section's; its number is not above the one before it
  differs : (first : List ℕ) (later : List (List ℕ)) (s : List ℕ) → Comes file (first ∷ later) s → read_of s ≡ Ok (header_of s)
      → Differs first s → Fault file BadFile
  not-rising : (earlier : List (List ℕ)) (before s : List ℕ) → Comes file (earlier ++ (before ∷ [])) s
      → read_of s ≡ Ok (header_of s) → section_number s ≤ section_number before → Fault file BadFile
  -- after the last section: bytes left over
  left_over : (ss : List (List ℕ)) (rest : List ℕ) → Begins file (length ss) ss rest → 0 < length rest → Fault file BadFile
