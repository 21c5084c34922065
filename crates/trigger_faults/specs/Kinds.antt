-- What the type of a target is kept for.
use Rattle.std.specs.Prelude.{ℕ, ◌≡◌, eqb, if◌then◌else◌}
use Rattle.trigger_faults.specs.declared.Kind.{Kind}

-- the type of each; of any other type, the first of them
abbrev pub type_of : Kind → ℕ
type_of Kind.None = 0
type_of Kind.Module = 1
type_of Kind.Tap = 2
type_of Kind.AbsoluteUri = 3
type_of Kind.LidUri = 4
type_of Kind.HttpUri = 5
type_of Kind.Reserved = 6

-- what a type is kept for
unfoldable pub kind_in : ℕ → Kind
kind_in n =
    if eqb n 0 then Kind.None
    else (if eqb n 1 then Kind.Module
    else (if eqb n 2 then Kind.Tap
    else (if eqb n 3 then Kind.AbsoluteUri
    else (if eqb n 4 then Kind.LidUri
    else (if eqb n 5 then Kind.HttpUri
    else Kind.Reserved)))))

abbrev pub Typed : ℕ → Kind → Type 0
Typed n kind = kind ≡ kind_in n
