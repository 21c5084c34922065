-- The two words of a place and what they hold.
--   marked      the second word of what a place holds has that word's own 27 bits
--   held_back   what the words of one that is held hold is the one that is held
use mathlib.Core.Path.{◌≡◌, refl, sym, ap, ◌∙◌}
use mathlib.Core.Bool.{Bool, true, false}
use Prim.Native.Nat.{ℕ, ◌+◌, ◌*◌, ◌/◌, ◌%◌, ◌^◌, ◌<◌}
use native.Mathlib.Omega.{arith}
use lib.Dec.{eqb}
use borrow.Author.Tests.{eqb-true, eqb-false}
use Rattle.base.proofs.Cases.{by}
use Rattle.clock_rule.specs.declared.Action.{Action}
use Rattle.clock_rule.specs.Numbers.{row_of, action_no}
use Rattle.clock_activation.specs.declared.Held.{Held}
use Rattle.clock_activation.specs.Code.{Narrow}
use Rattle.clock_activation.specs.Places.{bit_of, held_in, mark_of}

row_back : (n : ℕ) → n < 4 → row_of (action_no n) ≡ n
row_back n h =
    by (eqb n 0) (λ t. rw (t, eqb-true n 0 t)) λ a.
    by (eqb n 1) (λ t. rw (a, t) (sym (eqb-true n 1 t))) λ b.
    by (eqb n 2) (λ t. rw (a, b, t) (sym (eqb-true n 2 t))) λ c.
    rw (a, b, c) (let x = eqb-false n 0 a in let y = eqb-false n 1 b in let z = eqb-false n 2 c in omega arith)

number-of-bit : (n : ℕ) → n < 2 → bit_of (eqb n 1) ≡ n
number-of-bit n h =
    by (eqb n 1) (λ t. rw t (sym (eqb-true n 1 t))) (λ f. rw f (let x = eqb-false n 1 f in omega arith))

-- a word below a bit, and the field there
field-16 : (w : ℕ) → w % 2 ^ 16 + w / 2 ^ 16 % 2 ^ 8 * 2 ^ 16 ≡ w % 2 ^ 24
field-16 w = omega arith

field-24 : (w : ℕ) → w % 2 ^ 24 + w / 2 ^ 24 % 4 * 2 ^ 24 ≡ w % 2 ^ 26
field-24 w = omega arith

field-26 : (w : ℕ) → w % 2 ^ 26 + w / 2 ^ 26 % 2 * 2 ^ 26 ≡ w % 2 ^ 27
field-26 w = omega arith

pub marked : (time second : ℕ) → mark_of (held_in time second) ≡ second % 134217728
unfolding held_in mark_of
marked time second =
    rw (row_back (second / 2 ^ 24 % 4) (omega arith), number-of-bit (second / 2 ^ 26 % 2) (omega arith))
    (ap (λ (n : ℕ). n + second / 2 ^ 24 % 4 * 2 ^ 24 + second / 2 ^ 26 % 2 * 2 ^ 26) (field-16 second)
    ∙ ap (λ (n : ℕ). n + second / 2 ^ 26 % 2 * 2 ^ 26) (field-24 second)
    ∙ field-26 second)

action-back : (a : Action) → action_no (row_of a) ≡ a
action-back Action.Prep = refl
action-back Action.Exec = refl
action-back Action.Susp = refl
action-back Action.Kill = refl

row_small : (a : Action) → row_of a < 4
row_small Action.Prep = omega arith
row_small Action.Exec = omega arith
row_small Action.Susp = omega arith
row_small Action.Kill = omega arith

bit-back : (b : Bool) → eqb (bit_of b) 1 ≡ b
bit-back true = refl
bit-back false = refl

bit-small : (b : Bool) → bit_of b < 2
bit-small true = omega arith
bit-small false = omega arith

pub held_back : (h : Held) → Narrow h.activation → held_in h.activation.time (mark_of h) ≡ h
unfolding held_in mark_of
held_back h f =
    let e = f.event in
    let a = f.application in
    let r = row_small h.activation.action in
    let b = bit-small h.applied in
    let w : ℕ = h.activation.event + h.activation.application * 2 ^ 16 + row_of h.activation.action * 2 ^ 24 + bit_of h.applied * 2 ^ 26 in
    let one₀ : w / 2 ^ 16 ≡ h.activation.application + 2 ^ 8 * (row_of h.activation.action + 4 * bit_of h.applied) = omega arith in
    let one₁ : (h.activation.application + 2 ^ 8 * (row_of h.activation.action + 4 * bit_of h.applied)) % 2 ^ 8 ≡ h.activation.application = omega arith in
    let one : w / 2 ^ 16 % 2 ^ 8 ≡ h.activation.application = ap (λ (n : ℕ). n % 2 ^ 8) one₀ ∙ one₁ in
    let two : w % 2 ^ 16 ≡ h.activation.event = omega arith in
    let three₀ : w / 2 ^ 24 ≡ row_of h.activation.action + 4 * bit_of h.applied = omega arith in
    let three₁ : (row_of h.activation.action + 4 * bit_of h.applied) % 4 ≡ row_of h.activation.action = omega arith in
    let three : w / 2 ^ 24 % 4 ≡ row_of h.activation.action = ap (λ (n : ℕ). n % 4) three₀ ∙ three₁ in
    let four₀ : w / 2 ^ 26 ≡ bit_of h.applied = omega arith in
    let four₁ : bit_of h.applied % 2 ≡ bit_of h.applied = omega arith in
    let four : w / 2 ^ 26 % 2 ≡ bit_of h.applied = ap (λ (n : ℕ). n % 2) four₀ ∙ four₁ in
    rw (one, two, three, four, action-back, bit-back)
