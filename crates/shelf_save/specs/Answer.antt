-- The number and the values of the answer to a save, in the number that crosses the boundary.
use Rattle.std.specs.Prelude.{ℕ, List, Result, Ok, Err}
use Rattle.refusal.specs.Refusal.{refusal_of}
use Rattle.refusal.specs.declared.Refusal.{Refusal}
use Rattle.answers.specs.Answers.{Out, out, sized, size_or}
use Rattle.key.specs.declared.Key.{Key}
use Rattle.shelf.specs.Layout.{shelf_at}
use Rattle.shelf_save.specs.Save.{Save, save_of}

-- how many bytes the file has: from bit 8 of the answer, or the refusal alone
abbrev pub saved_code : Result ℕ Refusal → ℕ
saved_code = sized

-- what a host takes out of it
abbrev pub saved_in : ℕ → Result ℕ Refusal
saved_in = size_or Ok (λ n. Err (refusal_of n))

-- what a save leaves
abbrev pub save_out : Save → Out
save_out c = out (saved_code c.said) c.out

unfoldable pub save_lent : List ℕ → List ℕ → Key → List ℕ → Out
save_lent words store key bytes = save_out (save_of (shelf_at words) store key bytes)
