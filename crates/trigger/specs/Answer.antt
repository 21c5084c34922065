-- The number and the values of a trigger's reading: a number of refusal, and the eleven numbers that cross the boundary.
use Rattle.std.specs.Prelude.{ℕ, ◌≡◌, List, [], ◌∷◌, ◌++◌, eqb, get_or, if◌then◌else◌, Result, Ok, Err}
use Rattle.refusal.specs.Refusal.{number, refusal_of}
use Rattle.refusal.specs.declared.Refusal.{Refusal}
use Rattle.answers.specs.Answers.{Told, told}
use Rattle.trigger.specs.Trigger.{extent, read_of}
use Rattle.trigger.specs.declared.Target.{Target}
use Rattle.trigger.specs.declared.Trigger.{Trigger}

-- a target's kind, its type, and up to three numbers of it
abbrev pub target_numbers : Target → List ℕ
target_numbers Target.None = 0 ∷ 0 ∷ 0 ∷ 0 ∷ 0 ∷ []
target_numbers (Target.Module m) = 1 ∷ 1 ∷ m.download ∷ m.group ∷ m.number ∷ []
target_numbers (Target.Tap n) = 2 ∷ 2 ∷ n ∷ 0 ∷ 0 ∷ []
target_numbers (Target.AbsoluteUri e) = 3 ∷ 3 ∷ e.place ∷ e.length ∷ 0 ∷ []
target_numbers (Target.LidUri e) = 4 ∷ 4 ∷ e.place ∷ e.length ∷ 0 ∷ []
target_numbers (Target.HttpUri e) = 5 ∷ 5 ∷ e.place ∷ e.length ∷ 0 ∷ []
target_numbers (Target.Reserved r) = 6 ∷ r.kind ∷ r.bytes.place ∷ r.bytes.length ∷ 0 ∷ []

-- a trigger's eleven numbers
abbrev pub numbers_of : Trigger → List ℕ
numbers_of t =
    t.idlength ∷ t.description ∷ t.id.place ∷ t.id.length
    ∷ (target_numbers t.target ++ (t.user.place ∷ t.user.length ∷ []))

-- a refusal has no values
abbrev pub trigger_told : Result Trigger Refusal → Told
trigger_told (Ok t) = told 0 (numbers_of t)
trigger_told (Err r) = told (number r) []

-- what a host takes out of the numbers
abbrev pub target_back : ℕ → ℕ → ℕ → ℕ → ℕ → Target
target_back kind of a b c =
    if eqb kind 0 then Target.None
    else (if eqb kind 1 then Target.Module (record { download = a; group = b; number = c })
    else (if eqb kind 2 then Target.Tap a
    else (if eqb kind 3 then Target.AbsoluteUri (extent a b)
    else (if eqb kind 4 then Target.LidUri (extent a b)
    else (if eqb kind 5 then Target.HttpUri (extent a b)
    else Target.Reserved (record { kind = of; bytes = extent a b }))))))

abbrev pub trigger_back : List ℕ → Trigger
trigger_back l =
    record {
      idlength = get_or l 0 0;
      description = get_or l 1 0;
      id = extent (get_or l 2 0) (get_or l 3 0);
      target = target_back (get_or l 4 0) (get_or l 5 0) (get_or l 6 0) (get_or l 7 0) (get_or l 8 0);
      user = extent (get_or l 9 0) (get_or l 10 0);
    }

abbrev pub answer_back : Told → Result Trigger Refusal
answer_back t = if eqb t.number 0 then Ok (trigger_back t.values) else Err (refusal_of t.number)

-- each value comes back out of a trigger's numbers, whatever stands behind them
abbrev pub NumbersBack : Type 0
NumbersBack = (t : Trigger) (more : List ℕ) → trigger_back (numbers_of t ++ more) ≡ t

-- so number and values lose nothing of a payload's reading
abbrev pub ReadingComesBack : List ℕ → Type 0
ReadingComesBack s = answer_back (trigger_told (read_of s)) ≡ read_of s
