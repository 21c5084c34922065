-- An answer's number loses nothing of the answer.
use Rattle.std.specs.Prelude.{ℕ, ◌/◌, ◌^◌, ◌<◌, ◌≡◌, ◌↔◌, Result, Ok}
use Rattle.refusal.specs.declared.Refusal.{Refusal}
use Rattle.clock_rule.specs.declared.State.{State}
use Rattle.clock_rule.specs.Numbers.{column_of}
use Rattle.clock.specs.Codes.{moved_code, time_code, state_code, refusal_of}

-- two answers with one number are one answer, and the low 8 bits are 0 exactly where it is no refusal
pub record Lossless {A : Type 0} (code : Result A Refusal → ℕ) : Type 0 where
  pub one : (x y : Result A Refusal) → code x ≡ code y → x ≡ y
  pub taken : (x : Result A Refusal) → (refusal_of (code x) ≡ 0) ↔ ((a : A) × (x ≡ Ok a))

-- each value comes back out
pub record Values : Type 0 where
  pub count : (n : ℕ) → moved_code (Ok n) / 2 ^ 8 ≡ n
  pub time : (t : ℕ) → time_code (Ok t) / 2 ^ 32 ≡ t
  pub state : (s : State) → (state_code (Ok s) / 2 ^ 8 ≡ column_of s) × (column_of s < 4)
