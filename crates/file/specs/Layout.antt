-- Document 01, "The shelf file": the layout. "The file: form number 1; count of sections; then, by rising section number, each
-- section's byte length and its bytes. All sections share key, version and last number. Largest file: 16,418 bytes."
use Rattle.std.specs.Prelude.{ℕ, zero, suc, ◌+◌, ◌*◌, ◌≤◌, ◌≡◌, Bool, true, ◌&&◌, List, [], ◌∷◌, ◌++◌, eqb, length, if◌then◌else◌, Ok}
use Rattle.key.specs.Key.{same_key}
use Rattle.section.specs.Section.{read_of, header_of, header_size, largest_section, most_sections}
use Rattle.section.specs.declared.Header.{Header}
use Rattle.file_number.specs.Number.{spelt}

-- the form of every file
abbrev pub form : ℕ
form = 1

-- a table has 1 to 16 sections
abbrev pub fewest : ℕ
fewest = 1

abbrev pub most_counted : ℕ
most_counted = most_sections

-- a section has 8 to 1,024 bytes
abbrev pub shortest : ℕ
shortest = header_size

abbrev pub longest : ℕ
longest = largest_section

-- the largest file, 16,418 bytes: one each for form and count, and for each section two for its length
abbrev pub largest_file : ℕ
largest_file = 2 + most_counted * (2 + longest)

-- each section's byte length and its bytes
unfoldable pub listed : List (List ℕ) → List ℕ
listed [] = []
listed (s ∷ ss) = spelt (length s) ++ (s ++ listed ss)

-- the file of a table's sections
unfoldable pub file_of : List (List ℕ) → List ℕ
file_of ss = spelt form ++ (spelt (length ss) ++ listed ss)

-- of the numbers below n those that are picked, rising: what stands for each
unfoldable pub chosen : ℕ → (ℕ → Bool) → (ℕ → List ℕ) → List (List ℕ)
chosen zero picks each = []
chosen (suc n) picks each = chosen n picks each ++ (if picks n then each n ∷ [] else [])

-- two sections share key, version and last number
unfoldable pub same_table : Header → Header → Bool
same_table a b = same_key a.key b.key && (eqb a.version b.version && eqb a.last b.last)

-- sections that are sound, share the table of the first, and rise from a lowest number
abbrev pub Rising : Header → ℕ → List (List ℕ) → Type 0
Rising first lowest [] = Unit {0}
Rising first lowest (s ∷ ss) =
    (read_of s ≡ Ok (header_of s))
    × (same_table first (header_of s) ≡ true)
    × (lowest ≤ (header_of s).number)
    × Rising first ((header_of s).number + 1) ss

-- the sections of a table, as a file holds them
abbrev pub SoundTable : List (List ℕ) → Type 0
SoundTable [] = ⊥
SoundTable (s ∷ ss) = (length (s ∷ ss) ≤ most_counted) × Rising (header_of s) 0 (s ∷ ss)
