-- The number and the values of the parts lose nothing.
--   parts-told
use mathlib.Core.Path.{◌≡◌, sym, ap, ◌∙◌}
use mathlib.Core.List.{[], ◌∷◌}
use Rattle.std.specs.Prelude.{Ok, Err}
use Rattle.refusal.proofs.Numbers.{once}
use Rattle.answers.specs.Answers.{Told}
use Rattle.answers.proofs.Same.{valueless}
use Rattle.trigger_faults.specs.Parts.{PartsTold}

pub parts-told : PartsTold
parts-told (Err m) (Err n) e = ap Err (once m n (ap (λ (t : Told). t.number) e))
parts-told (Ok p) (Ok q) e =
    let v : p.target ∷ p.user ∷ [] ≡ q.target ∷ q.user ∷ [] = ap (λ (t : Told). t.values) e in
    let a : p.target ≡ q.target = cc in
    let b : p.user ≡ q.user = cc in
    ap (λ x. Ok (record { target = x; user = p.user })) a ∙ ap (λ x. Ok (record { target = q.target; user = x })) b
parts-told (Err m) (Ok q) e = valueless _ _ _ _ e
parts-told (Ok p) (Err n) e = valueless _ _ _ _ (sym e)
