-- The number and the values of an answer lose nothing (`specs/Answer.antt` has the words).
--   reading-told, step-told, own-told
use mathlib.Core.Path.{◌≡◌, refl, sym, ap}
use mathlib.Core.List.{List, [], ◌∷◌}
use Prim.Native.Nat.{ℕ}
use native.Mathlib.Omega.{arith}
use lib.ListN.{get_or}
use Rattle.answers.specs.Answers.{Told, told}
use Rattle.answers.proofs.Same.{valueless}
use Rattle.std.specs.Prelude.{Ok, Err, Some, None}
use Rattle.refusal.proofs.Numbers.{once}
use Rattle.programme.specs.Answer.{item_numbers, ReadingTold, StepTold, OwnTold}
use Rattle.programme.specs.declared.Programme.{Programme}
use Rattle.programme.specs.declared.Loop.{Loop}
use Rattle.programme.specs.declared.Item.{Item}

-- values that are equal
values : {m n : ℕ} {v w : List ℕ} → told m v ≡ told n w → v ≡ w
values e = ap (λ (t : Told). t.values) e

numbers : {m n : ℕ} {v w : List ℕ} → told m v ≡ told n w → m ≡ n
numbers e = ap (λ (t : Told). t.number) e

-- what the numbers say
programme_back : List ℕ → Programme
programme_back l = record { service = get_or l 0 0; start = get_or l 1 0; minutes = get_or l 2 0; items = get_or l 3 0 }

loop_back : List ℕ → Loop
loop_back l = record { count = get_or l 0 0; place = get_or l 1 0; length = get_or l 2 0 }

item_back : List ℕ → Item
item_back l =
    record {
      linkage = get_or l 1 0;
      flags = get_or l 2 0;
      playback = get_or l 3 0;
      delay = get_or l 4 0;
      expires = get_or l 5 0;
      size = get_or l 6 0;
      nameat = get_or l 7 0;
      named = get_or l 8 0;
      descriptors = record { count = get_or l 9 0; place = get_or l 10 0; length = get_or l 11 0 };
      next = get_or l 12 0;
    }

pub reading-told : ReadingTold
unfolding programme_back
reading-told (Ok p) (Ok q) e = ap (λ l. Ok (programme_back l)) (values e)
reading-told (Ok p) (Err n) e = valueless _ _ _ _ (sym e)
reading-told (Err n) (Ok q) e = valueless _ _ _ _ e
reading-told (Err n) (Err m) e = ap Err (once n m (numbers e))

pub step-told : StepTold
unfolding item_back
step-told (Ok (Some i)) (Ok (Some j)) e = ap (λ l. Ok (Some (item_back l))) (values e)
step-told (Ok (Some i)) (Ok None) e = absurd (let v : 1 ∷ item_numbers i ≡ 2 ∷ [] = values e in let z : ◌≡◌ {A = ℕ} 1 2 = cc in omega arith)
step-told (Ok (Some i)) (Err n) e = valueless _ _ _ _ (sym e)
step-told (Ok None) (Ok (Some j)) e = absurd (let v : 2 ∷ [] ≡ 1 ∷ item_numbers j = values e in let z : ◌≡◌ {A = ℕ} 2 1 = cc in omega arith)
step-told (Ok None) (Ok None) e = refl
step-told (Ok None) (Err n) e = valueless _ _ _ _ (sym e)
step-told (Err n) (Ok (Some j)) e = valueless _ _ _ _ e
step-told (Err n) (Ok None) e = valueless _ _ _ _ e
step-told (Err n) (Err m) e = ap Err (once n m (numbers e))

pub own-told : OwnTold
unfolding loop_back
own-told (Ok l) (Ok k) e = ap (λ v. Ok (loop_back v)) (values e)
own-told (Ok l) (Err n) e = valueless _ _ _ _ (sym e)
own-told (Err n) (Ok k) e = valueless _ _ _ _ e
own-told (Err n) (Err m) e = ap Err (once n m (numbers e))
