-- A trigger's number and values lose nothing (`specs/Answer.antt` has the words).
--   numbers_back, reading_comes_back
use mathlib.Core.Path.{◌≡◌, refl, sym, ap, ◌∙◌}
use mathlib.Core.List.{List, [], ◌++◌, append-nil}
use Prim.Native.Nat.{ℕ}
use Rattle.base.proofs.Tables.{among}
use Rattle.trigger_faults.specs.Fields.{faults}
use Rattle.trigger.specs.declared.Extent.{Extent}
use Rattle.trigger.specs.declared.Target.{Target}
use Rattle.trigger.specs.declared.Trigger.{Trigger}
use Rattle.std.specs.Prelude.{Ok, Err}
use Rattle.trigger.specs.Trigger.{trigger_of, read_of}
use Rattle.trigger.specs.Answer.{numbers_of, trigger_told, trigger_back, answer_back, NumbersBack, ReadingComesBack}

-- a trigger by its fields
abbrev made : ℕ → ℕ → Extent → Target → Extent → Trigger
made idlength description id target user = record { idlength = idlength; description = description; id = id; target = target; user = user }

by-target : (idlength description : ℕ) (id user : Extent) (more : List ℕ) (t : Target)
    → trigger_back (numbers_of (made idlength description id t user) ++ more) ≡ made idlength description id t user
by-target idlength description id user more Target.None = refl
by-target idlength description id user more (Target.Module m) = refl
by-target idlength description id user more (Target.Tap n) = refl
by-target idlength description id user more (Target.AbsoluteUri e) = refl
by-target idlength description id user more (Target.LidUri e) = refl
by-target idlength description id user more (Target.HttpUri e) = refl
by-target idlength description id user more (Target.Reserved r) = refl

pub numbers_back : NumbersBack
numbers_back t more = by-target t.idlength t.description t.id t.user more t.target

pub reading_comes_back : (s : List ℕ) → ReadingComesBack s
unfolding read_of
reading_comes_back s =
    among Err (λ a. answer_back (trigger_told a) ≡ a) (faults s) (Ok (trigger_of s))
    (refl, (refl, (refl, (refl, (refl, (refl, (refl, (refl, (refl, (refl, (refl, (refl, (refl, tt)))))))))))))
    (ap Ok (ap trigger_back (sym (append-nil (numbers_of (trigger_of s)))) ∙ numbers_back (trigger_of s) []))
