-- The numbers and the values of the answers to the shelf's questions, in the numbers or the plain yes or no that cross the boundary.
use Rattle.std.specs.Prelude.{ℕ, ◌+◌, ◌*◌, ◌/◌, ◌%◌, List, Bool, true, false, eqb, length, if◌then◌else◌, Option, Some, None, Result, Ok, Err}
use Rattle.refusal.specs.Refusal.{number, refusal_of}
use Rattle.refusal.specs.declared.Refusal.{Refusal}
use Rattle.answers.specs.Answers.{Out, out, sized, size_or, puts}
use Rattle.key.specs.declared.Key.{Key}
use Rattle.shelf.specs.Layout.{shelf_at}
use Rattle.shelf_ask.specs.Ask.{Copy, copy_of, whole_of, missing_of}
use Rattle.shelf_ask.specs.Tables.{table_told}

-- bits 8 to 15: 1 complete, 2 incomplete
abbrev pub whole_code : Result Bool Refusal → ℕ
whole_code (Ok true) = 256
whole_code (Ok false) = 512
whole_code (Err r) = number r

-- its plain truth, for a lamp: held and complete, and nothing else
abbrev pub is_complete : Result Bool Refusal → Bool
is_complete (Ok whole) = whole
is_complete (Err r) = false

-- bits 8 to 15: 1 nothing missing, 2 a number, which stands in bits 16 to 23
abbrev pub missing_code : Result (Option ℕ) Refusal → ℕ
missing_code (Ok None) = 256
missing_code (Ok (Some n)) = 512 + 65536 * n
missing_code (Err r) = number r

-- bits 8 to 23: how many bytes now stand at the output's front
abbrev pub copied_code : Result ℕ Refusal → ℕ
copied_code = sized

-- what a host takes out of them
abbrev pub whole_back : ℕ → Result Bool Refusal
whole_back code = if eqb code 256 then Ok true else (if eqb code 512 then Ok false else Err (refusal_of code))

abbrev pub missing_back : ℕ → Result (Option ℕ) Refusal
missing_back code =
    if eqb code 256 then Ok None
    else (if eqb (code % 65536) 512 then Ok (Some (code / 65536))
    else Err (refusal_of code))

abbrev pub copied_in : ℕ → Result ℕ Refusal
copied_in = size_or Ok (λ n. Err (refusal_of n))

-- what is answered of the record that lent numbers are
unfoldable pub whole_lent : List ℕ → List ℕ → Key → ℕ
whole_lent words store key = whole_code (whole_of (shelf_at words) store key)

unfoldable pub complete_lent : List ℕ → List ℕ → Key → Bool
complete_lent words store key = is_complete (whole_of (shelf_at words) store key)

unfoldable pub missing_lent : List ℕ → List ℕ → Key → ℕ
missing_lent words store key = missing_code (missing_of (shelf_at words) store key)

abbrev pub copy_out : Copy → Out
copy_out c = out (copied_code c.said) c.out

unfoldable pub copy_lent : List ℕ → List ℕ → Key → ℕ → List ℕ → Out
copy_lent words store key n bytes = copy_out (copy_of (shelf_at words) store key n bytes)

-- the table in a place, in numbers at the front of a lent buffer
unfoldable pub table_lent : List ℕ → List ℕ → ℕ → List ℕ → Out
table_lent words store p fields = puts (table_told (shelf_at words) (length store) p) fields
