-- The answers in numbers.
--   whole-told, missing-told, copy_told       what the layer's call answers, told in a number, is what the boundary's answers
--   complete-told, complete-plainly           the plain truth of it is that the table is complete
--   whole_back_lem, missing-back                  the answer comes back out of its number
use mathlib.Core.Path.{◌≡◌, refl, ap, ◌∙◌}
use mathlib.Core.Bool.{Bool, true, false}
use mathlib.Core.List.{List}
use mathlib.Core.Logic.{◌↔◌}
use Prim.Native.Nat.{ℕ, ◌+◌, ◌*◌, ◌/◌, ◌%◌, ◌<◌}
use native.Mathlib.Omega.{arith}
use borrow.Author.Tests.{eq-eqb, ne_eqb}
use Rattle.answers.specs.Answers.{out}
use Rattle.std.specs.Prelude.{Some, None, Result, Ok, Err}
use Rattle.std.specs.declared.option.Option.{Option}
use Rattle.std.specs.Result.{result_unwrap_or}
use Rattle.refusal.specs.Refusal.{number}
use Rattle.refusal.specs.declared.Refusal.{Refusal}
use Rattle.refusal.proofs.Numbers.{in_byte, back}
use Rattle.key.specs.declared.Key.{Key}
use Rattle.shelf.specs.Layout.{shelf_at}
use Rattle.shelf_ask.specs.Ask.{copy, copy_of, whole_of, missing_of}
use Rattle.shelf_ask.specs.Answer.{is_complete, complete_lent, whole_code, missing_code, copied_code, whole_back, missing_back, copy_out, whole_lent, missing_lent, copy_lent}

complete-only : (r : Result Bool Refusal) → is_complete r ≡ true → r ≡ Ok true
complete-only (Ok whole) e = ap Ok e
complete-only (Err r) e = let z : ◌≡◌ {A = ℕ} 0 1 = cc in absurd (omega arith)

-- as the code tells it
pub plainly : (r : Result Bool Refusal) → result_unwrap_or r false ≡ is_complete r
plainly (Ok whole) = refl
plainly (Err r) = refl

module _ (words store : List ℕ) (key : Key) where
  pub whole-told : {said : Result Bool Refusal} {code : ℕ} → said ≡ whole_of (shelf_at words) store key → code ≡ whole_code said → code ≡ whole_lent words store key
  unfolding whole_lent
  whole-told e q = q ∙ ap whole_code e

  pub complete-told : {said : Result Bool Refusal} {lit : Bool} → said ≡ whole_of (shelf_at words) store key → lit ≡ is_complete said → lit ≡ complete_lent words store key
  unfolding complete_lent
  complete-told e q = q ∙ ap is_complete e

  -- the plain truth is that the table is complete, and no refusal
  pub complete-plainly : (complete_lent words store key ≡ true) ↔ (whole_of (shelf_at words) store key ≡ Ok true)
  unfolding complete_lent
  complete-plainly = (complete-only (whole_of (shelf_at words) store key), λ e. ap is_complete e)

  pub missing-told : {said : Result (Option ℕ) Refusal} {code : ℕ} → said ≡ missing_of (shelf_at words) store key → code ≡ missing_code said → code ≡ missing_lent words store key
  unfolding missing_lent
  missing-told e q = q ∙ ap missing_code e

  pub copy_told :
      {said : Result ℕ Refusal}
      {code : ℕ}
      {left : List ℕ}
      (n : ℕ)
      (bytes : List ℕ)
      → copy said left ≡ copy_of (shelf_at words) store key n bytes
      → code ≡ copied_code said
      → out code left ≡ copy_lent words store key n bytes
  unfolding copy_lent
  copy_told n bytes e q = rw q (ap copy_out e)

-- a refusal is below 256
pub whole_back_lem : (r : Result Bool Refusal) → whole_back (whole_code r) ≡ r
whole_back_lem (Ok true) = refl
whole_back_lem (Ok false) = refl
whole_back_lem (Err r) =
    let l : number r < 256 = (in_byte r).1 in rw (ne_eqb (number r) 256 (λ z. omega arith), ne_eqb (number r) 512 (λ z. omega arith)) (ap Err (back r))

pub missing-back : (r : Result (Option ℕ) Refusal) → missing_back (missing_code r) ≡ r
missing-back (Ok None) = refl
missing-back (Ok (Some n)) =
    let d : (512 + 65536 * n) / 65536 ≡ n = omega arith in
    rw (ne_eqb (512 + 65536 * n) 256 (λ z. omega arith), eq-eqb ((512 + 65536 * n) % 65536) 512 (omega arith), d)
missing-back (Err r) =
    let l : number r < 256 = (in_byte r).1 in rw (ne_eqb (number r) 256 (λ z. omega arith), ne_eqb (number r % 65536) 512 (λ z. omega arith)) (ap Err (back r))
