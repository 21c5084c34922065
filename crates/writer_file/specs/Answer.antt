-- The number and the values of the answer to feeding a body, in the number that crosses the boundary, and what is so of it.
use Rattle.std.specs.Prelude.{ℕ, ◌≡◌, List, Result, Ok, Err}
use Rattle.refusal.specs.Refusal.{refusal_of}
use Rattle.refusal.specs.declared.Refusal.{Refusal}
use Rattle.answers.specs.Answers.{Out, out, sized, size_or, Fills}
use Rattle.writer.specs.declared.Label.{Label}
use Rattle.writer_file.specs.Feeding.{feed_file, Feed, feed_of}

-- what a host takes out of how many bytes the file has
abbrev pub fed_in : ℕ → Result ℕ Refusal
fed_in = size_or Ok (λ n. Err (refusal_of n))

-- what asking for the file of the table that carries a body leaves
abbrev pub feed_out : Feed → Out
feed_out f = out (sized f.said) f.out

unfoldable pub file_lent : Label → List ℕ → List ℕ → Out
file_lent label body old = feed_out (feed_of label body old)

-- Of this answer:
-- the file's size, or its refusal, comes back
abbrev pub FileComesBack : Label → List ℕ → List ℕ → Type 0
FileComesBack label body old = fed_in (file_lent label body old).code ≡ (feed_of label body old).said

-- a refused call leaves the output as it was; the low 8 bits are 0 exactly when the file stands there
abbrev pub FileFills : Label → List ℕ → List ℕ → Type 0
FileFills label body old = Fills (feed_file label body) old (file_lent label body old)
