-- The clock is moved.
use Rattle.std.specs.Prelude.{ℕ, false, List, [], ◌∷◌, length, Ok, Err}
use Rattle.refusal.specs.declared.Refusal.{Refusal}
use Rattle.base.specs.Choice.{Row, first}
use Rattle.clock_record.specs.Waiting.{due_of}
use Rattle.clock_due.specs.Order.{sort_of, run_of}
use Rattle.clock_keep.specs.Keep.{kept_of}
use Rattle.clock_record.specs.Book.{Book}
use Rattle.clock.specs.Answered.{Answered}
use Rattle.clock.specs.Refusals.{no31, no35}

-- the refusals, in their order
abbrev pub faults : Book → ℕ → List Row
faults b to = no35 b ∷ no31 b to ∷ []

abbrev pub refused : Book → Refusal → Answered ℕ
refused b r = record { answer = Err r; book = b }

-- the move applies the waiting ones that it reaches, in order, and answers how many they are
abbrev pub advanced : Book → ℕ → Answered ℕ
advanced b to =
    record {
      answer = Ok (length (due_of to b.held));
      book = record { over = false; now = to; apps = run_of b.apps (sort_of (due_of to b.held)); held = kept_of to b.held };
    }

unfoldable pub move_in : Book → ℕ → Answered ℕ
move_in b to = first (refused b) (faults b to) (advanced b to)
