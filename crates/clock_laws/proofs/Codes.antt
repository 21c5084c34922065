-- An answer's number loses nothing of the answer.
--   heard-lossless, moved-lossless, time-lossless, state-lossless     two answers with one number are one answer
--   values                                                            each value comes back out
use mathlib.Core.Path.{◌≡◌, refl, sym, ap, ◌∙◌}
use Prim.Native.Nat.{ℕ, ◌%◌, ◌^◌}
use native.Mathlib.Omega.{arith}
use Rattle.std.specs.Prelude.{Result, Ok, Err}
use Rattle.refusal.specs.Refusal.{number}
use Rattle.refusal.specs.declared.Refusal.{Refusal}
use Rattle.refusal.proofs.Numbers.{in_byte, once}
use Rattle.clock_rule.specs.declared.State.{State}
use Rattle.clock_rule.specs.Numbers.{column_of}
use Rattle.clock_states.proofs.States.{column-small}
use Rattle.clock.specs.declared.Heard.{Heard}
use Rattle.clock.specs.Codes.{heard_code, moved_code, time_code, state_code}
use Rattle.clock_laws.specs.Lossless.{Lossless, Values}

no-value : {A : Type 0} (r : Refusal) (a : A) → ◌≡◌ {A = Result A Refusal} (Err r) (Ok a) → ⊥
no-value r a e = cc

-- a code that has a refusal's number for a refusal, and for what is accepted a number of its own with 0 in the low 8 bits
module _ {A : Type 0} (code : Result A Refusal → ℕ) (refused : (r : Refusal) → code (Err r) ≡ number r)
    (low : (a : A) → code (Ok a) % 2 ^ 8 ≡ 0) (one : (a b : A) → code (Ok a) ≡ code (Ok b) → a ≡ b) where
  not-0 : (r : Refusal) → code (Err r) % 2 ^ 8 ≡ 0 → ⊥
  not-0 r e = let h = in_byte r in let n = refused r in omega (arith, h.0, h.1)

  both-one : (x y : Result A Refusal) → code x ≡ code y → x ≡ y
  both-one (Ok a) (Ok b) e = ap Ok (one a b e)
  both-one (Ok a) (Err r) e = absurd (not-0 r (sym (ap (λ (n : ℕ). n % 2 ^ 8) e) ∙ low a))
  both-one (Err r) (Ok a) e = absurd (not-0 r (ap (λ (n : ℕ). n % 2 ^ 8) e ∙ low a))
  both-one (Err r) (Err q) e = ap Err (once r q (sym (refused r) ∙ e ∙ refused q))

  both-taken : (x : Result A Refusal) → (code x % 2 ^ 8 ≡ 0 → (a : A) × (x ≡ Ok a)) × ((a : A) × (x ≡ Ok a) → code x % 2 ^ 8 ≡ 0)
  both-taken (Ok a) = (λ e. (a, refl), λ t. low a)
  both-taken (Err r) = (λ e. absurd (not-0 r e), λ t. absurd (no-value r t.0 t.1))

  lossless : Lossless code
  lossless = record { one = both-one; taken = both-taken }

column-one : (s t : State) → column_of s ≡ column_of t → s ≡ t
column-one State.Released State.Released e = refl
column-one State.Released State.Ready e = absurd (omega arith)
column-one State.Released State.Active e = absurd (omega arith)
column-one State.Released State.Suspended e = absurd (omega arith)
column-one State.Ready State.Released e = absurd (omega arith)
column-one State.Ready State.Ready e = refl
column-one State.Ready State.Active e = absurd (omega arith)
column-one State.Ready State.Suspended e = absurd (omega arith)
column-one State.Active State.Released e = absurd (omega arith)
column-one State.Active State.Ready e = absurd (omega arith)
column-one State.Active State.Active e = refl
column-one State.Active State.Suspended e = absurd (omega arith)
column-one State.Suspended State.Released e = absurd (omega arith)
column-one State.Suspended State.Ready e = absurd (omega arith)
column-one State.Suspended State.Active e = absurd (omega arith)
column-one State.Suspended State.Suspended e = refl

heard-low : (x : Heard) → heard_code (Ok x) % 2 ^ 8 ≡ 0
heard-low Heard.Applied = refl
heard-low Heard.Waiting = refl

heard-one : (x y : Heard) → heard_code (Ok x) ≡ heard_code (Ok y) → x ≡ y
heard-one Heard.Applied Heard.Applied e = refl
heard-one Heard.Applied Heard.Waiting e = absurd (omega arith)
heard-one Heard.Waiting Heard.Applied e = absurd (omega arith)
heard-one Heard.Waiting Heard.Waiting e = refl

pub heard-lossless : Lossless heard_code
heard-lossless = lossless heard_code (λ r. refl) heard-low heard-one

pub moved-lossless : Lossless moved_code
moved-lossless = lossless moved_code (λ r. refl) (λ n. omega arith) (λ n m e. omega arith)

pub time-lossless : Lossless time_code
time-lossless = lossless time_code (λ r. refl) (λ n. omega arith) (λ n m e. omega arith)

pub state-lossless : Lossless state_code
state-lossless = lossless state_code (λ r. refl) (λ s. omega arith) (λ s t e. column-one s t (omega arith))

pub values : Values
values =
    record {
      count = λ n. omega arith;
      time = λ t. omega arith;
      state = λ s. (omega arith, column-small s);
    }
