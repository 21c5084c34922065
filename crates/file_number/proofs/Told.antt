-- The number and the values of the answers lose nothing.
--   number-told, spelled-told
use mathlib.Core.Path.{◌≡◌, sym, ap}
use mathlib.Core.List.{[], ◌∷◌}
use Rattle.std.specs.Prelude.{Ok, Err}
use Rattle.refusal.proofs.Numbers.{once}
use Rattle.answers.specs.Answers.{Told}
use Rattle.answers.proofs.Same.{valueless}
use lib.ListN.{get_or}
use Rattle.file_number.specs.Number.{numeral}
use Rattle.file_number.specs.Answer.{NumberTold, SpelledTold}

pub number-told : NumberTold
number-told (Ok a) (Ok b) e = ap (λ (t : Told). Ok (numeral (get_or t.values 0 0) (get_or t.values 1 0))) e
number-told (Err r) (Err q) e = ap Err (once r q (ap (λ (t : Told). t.number) e))
number-told (Err r) (Ok b) e = valueless _ _ _ _ e
number-told (Ok a) (Err q) e = valueless _ _ _ _ (sym e)

pub spelled-told : SpelledTold
spelled-told (Ok a) (Ok b) e = let v : a ∷ [] ≡ b ∷ [] = ap (λ (t : Told). t.values) e in cc
spelled-told (Err r) (Err q) e = ap Err (once r q (ap (λ (t : Told). t.number) e))
spelled-told (Err r) (Ok b) e = valueless _ _ _ _ e
spelled-told (Ok a) (Err q) e = valueless _ _ _ _ (sym e)
