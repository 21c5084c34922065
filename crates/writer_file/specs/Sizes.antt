-- What the steps of feeding come to: how many bytes a section and the file take, from the body's length alone.
use Rattle.std.specs.Prelude.{ℕ, ◌+◌, ◌-◌, ◌*◌, List, ◌++◌, length}
use Rattle.file_number.specs.Number.{spelt}
use Rattle.file.specs.Layout.{form, longest, listed}
use Rattle.writer.specs.Writer.{full, last_of, end_of, written}
use Rattle.writer.specs.declared.Label.{Label}
use Rattle.writer_file.specs.Feeding.{sections_below}

-- the bytes of section k of a body of n bytes
abbrev pub size_at : ℕ → ℕ → ℕ
size_at n k = 8 + (end_of n (full * k) - full * k)

-- what a section of so many bytes takes in the file, with its length
abbrev pub entry_size : ℕ → ℕ
entry_size size = length (spelt size) + size

-- section k in the file, with its length
abbrev pub entry_at : Label → List ℕ → ℕ → List ℕ
entry_at label body k = spelt (size_at (length body) k) ++ written label body k

-- the file of a body of n bytes: form and count, the full sections, and the last
abbrev pub file_size : ℕ → ℕ
file_size n = 2 + (2 + longest) * last_of n + entry_size (size_at n (last_of n))

-- the front of the file, up to its first k sections
unfoldable pub front_of : Label → List ℕ → ℕ → ℕ → List ℕ
front_of label body count k = spelt form ++ (spelt count ++ listed (sections_below label body k))
