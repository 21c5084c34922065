-- What the steps of saving come to: one section, and how many bytes a table takes in its file, from the held lengths alone.
use Rattle.std.specs.Prelude.{ℕ, zero, suc, ◌+◌, ◌<◌, ◌≤◌, not, List, [], ◌∷◌, eqb, length, get_or, if◌then◌else◌}
use Rattle.berth.specs.Berth.{berth_size, sections, standing}
use Rattle.file_number.specs.Number.{spelt}

-- section n of place p by its held length; a length of 0 is no section
unfoldable pub held_of : ℕ → List ℕ → ℕ → ℕ → List (List ℕ)
held_of size store p n = if not (eqb size 0) then standing store p n size ∷ [] else []

-- the bytes that a section takes in the file, with its length
unfoldable pub size_of : ℕ → ℕ
size_of size = if not (eqb size 0) then length (spelt size) + size else 0

unfoldable pub count_of : ℕ → ℕ
count_of size = if not (eqb size 0) then 1 else 0

-- those among the first k numbers
unfoldable pub size_below : ℕ → List ℕ → ℕ
size_below zero lengths = 0
size_below (suc k) lengths = size_below k lengths + size_of (get_or lengths k 0)

unfoldable pub count_below : ℕ → List ℕ → ℕ
count_below zero lengths = 0
count_below (suc k) lengths = count_below k lengths + count_of (get_or lengths k 0)

-- every held section fits its berth
unfoldable pub Berthed : List ℕ → Type 0
Berthed lengths = (n : ℕ) → n < sections → get_or lengths n 0 ≤ berth_size
