-- A loop whose descriptors are counted: so many from a place, by the step of every descriptor loop (document 01, "Descriptors").
-- The count is of descriptors, not of bytes.
use Rattle.std.specs.Prelude.{ℕ, zero, suc, Bool, true, false, List, Ok, Err, Option, Some, None}
use Rattle.descriptors.specs.Loop.{Step, step_of}

-- where counted descriptors end; none where one of them passes the end
abbrev pub Run : Type 0
Run = Option ℕ

-- a run goes on behind a descriptor; where none can be read, one passes the end
abbrev pub behind : Step → (ℕ → Run) → Run
behind (Ok (Some d)) go = go d.next
behind (Ok None) go = None
behind (Err r) go = None

-- where n descriptors from a place end, or that one of them passes the end
unfoldable pub run_of : ℕ → List ℕ → ℕ → Run
run_of zero s at = Some at
run_of (suc n) s at = behind (step_of s at) (run_of n s)

-- one of them passes the end
abbrev pub passes : Run → Bool
passes (Some end) = false
passes None = true

-- the place behind the last; 0 where there is none
abbrev pub end_of : Run → ℕ
end_of (Some end) = end
end_of None = 0
