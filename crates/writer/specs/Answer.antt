-- The number and the values of the writer's answers, in the numbers that cross the boundary, and what is so of them.
use Rattle.std.specs.Prelude.{ℕ, ◌+◌, ◌*◌, ◌/◌, ◌^◌, ◌≡◌, List, ◌↔◌, eqb, if◌then◌else◌, Result, Ok, Err}
use Rattle.refusal.specs.Refusal.{number, refusal_of}
use Rattle.refusal.specs.declared.Refusal.{Refusal}
use Rattle.answers.specs.Answers.{Out, out, refusal_in, sized, size_or, Fills}
use Rattle.writer.specs.Writer.{last_of, written, count_of, Write, write_of}
use Rattle.writer.specs.declared.Label.{Label}

-- how many sections: from bit 8 of the answer, or the refusal alone
abbrev pub counted_code : Result ℕ Refusal → ℕ
counted_code (Ok n) = n * 2 ^ 8
counted_code (Err r) = number r

-- what a host takes out of it
abbrev pub counted_in : ℕ → Result ℕ Refusal
counted_in code = if eqb (refusal_in code) 0 then Ok (code / 2 ^ 8) else Err (refusal_of code)

-- of how many bytes now stand at the front of the output: likewise
abbrev pub written_in : ℕ → Result ℕ Refusal
written_in = size_or Ok (λ n. Err (refusal_of n))

-- what all sections of a table share
abbrev pub label : ℕ → ℕ → ℕ → Label
label table extension version = record { table = table; extension = extension; version = version }

-- the answer to how many sections a body of a length makes in a table of that id
unfoldable pub count_lent : ℕ → ℕ → ℕ
count_lent table length = counted_code (count_of table length)

-- what asking for section k of the table that carries a body leaves
abbrev pub write_out : Write → Out
write_out w = out (sized w.said) w.out

unfoldable pub section_lent : Label → List ℕ → ℕ → List ℕ → Out
section_lent label body k old = write_out (write_of label body k old)

-- Of these answers:
-- the count comes back, and its low 8 bits are 0 exactly when the body is counted
abbrev pub CountComesBack : ℕ → ℕ → Type 0
CountComesBack table n = counted_in (count_lent table n) ≡ count_of table n

abbrev pub CountAccepted : ℕ → ℕ → Type 0
CountAccepted table n = (refusal_in (count_lent table n) ≡ 0) ↔ (count_of table n ≡ Ok (last_of n + 1))

-- a section's size, or its refusal, comes back
abbrev pub SectionComesBack : Label → List ℕ → ℕ → List ℕ → Type 0
SectionComesBack label body k old = written_in (section_lent label body k old).code ≡ (write_of label body k old).said

-- a refused call leaves the output as it was; the low 8 bits are 0 exactly when the section stands there
abbrev pub SectionFills : Label → List ℕ → ℕ → List ℕ → Type 0
SectionFills label body k old = Fills (written label body k) old (section_lent label body k old)
