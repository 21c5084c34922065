-- What a save leaves, told in a number, is what the boundary's leaves.
use mathlib.Core.Path.{◌≡◌, ap}
use mathlib.Core.List.{List}
use Prim.Native.Nat.{ℕ}
use Rattle.answers.specs.Answers.{out}
use Rattle.key.specs.declared.Key.{Key}
use Rattle.shelf.specs.Layout.{shelf_at}
use Rattle.std.specs.Prelude.{Result}
use Rattle.refusal.specs.declared.Refusal.{Refusal}
use Rattle.shelf_save.specs.Save.{save, save_of}
use Rattle.shelf_save.specs.Answer.{saved_code, save_out, save_lent}

pub told :
    {said : Result ℕ Refusal}
    {code : ℕ}
    {left : List ℕ}
    (words store : List ℕ)
    (key : Key)
    (bytes : List ℕ)
    → save said left ≡ save_of (shelf_at words) store key bytes
    → code ≡ saved_code said
    → out code left ≡ save_lent words store key bytes
unfolding save_lent
told words store key bytes e q = rw q (ap save_out e)
