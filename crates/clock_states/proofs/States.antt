-- A word of states and the states that it is.
--   states-kept   the word of the states that a word is has the word's own sixteen bits
--   column-small  the number of a state is below 4
--   states-back   the states that the word of eight states is are those states
--   word-said     the word of eight states, digit by digit
--   states-small  the digits of n states are below 4 ^ n
use mathlib.Core.Path.{◌≡◌, refl, sym, ap, ◌∙◌}
use mathlib.Core.List.{List, [], ◌∷◌}
use Prim.Native.Nat.{ℕ, zero, suc, ◌+◌, ◌*◌, ◌/◌, ◌%◌, ◌^◌, ◌<◌, ◌≤◌}
use Rattle.std.proofs.Math.Nat.{div-div-eq-div-mul, pow-suc, pow-succ'}
use Rattle.std.proofs.Math.Arith.{mod-mul}
use native.Mathlib.Omega.{arith}
use lib.Dec.{eqb}
use lib.ListN.{length}
use borrow.Author.Tests.{eqb-true, eqb-false}
use Rattle.base.proofs.Cases.{by}
use Rattle.clock_rule.specs.declared.App.{App}
use Rattle.clock_rule.specs.declared.State.{State}
use Rattle.clock_rule.specs.Numbers.{column_of}
use Rattle.clock_states.specs.UpTo.{up_to}
use Rattle.clock_states.specs.States.{state_no, app_at, apps_in, states_word}
use Rattle.clock_states.proofs.UpTo.{up-length}

state-back : (s : State) → state_no (column_of s) ≡ s
state-back State.Released = refl
state-back State.Ready = refl
state-back State.Active = refl
state-back State.Suspended = refl

pub column-small : (s : State) → column_of s < 4
column-small State.Released = omega arith
column-small State.Ready = omega arith
column-small State.Active = omega arith
column-small State.Suspended = omega arith

column-back : (n : ℕ) → n < 4 → column_of (state_no n) ≡ n
column-back n h =
    by (eqb n 0) (λ t. rw t (sym (eqb-true n 0 t))) λ a.
    by (eqb n 1) (λ t. rw (a, t) (sym (eqb-true n 1 t))) λ b.
    by (eqb n 2) (λ t. rw (a, b, t) (sym (eqb-true n 2 t))) λ c.
    rw (a, b, c) (let x = eqb-false n 0 a in let y = eqb-false n 1 b in let z = eqb-false n 2 c in omega arith)

-- a digit for each state of a list, the first one's the lowest: of eight states it is their word
unfoldable pub word_in : List App → ℕ
word_in [] = 0
word_in (a ∷ apps) = column_of a.state + 4 * word_in apps

pub word-said : (l : List App) → length l ≡ 8 → states_word l ≡ word_in l
unfolding states_word word_in
word-said (a ∷ b ∷ c ∷ d ∷ e ∷ f ∷ g ∷ h ∷ []) z = omega arith
word-said [] z = absurd (omega arith)
word-said (a ∷ []) z = absurd (omega arith)
word-said (a ∷ b ∷ []) z = absurd (omega arith)
word-said (a ∷ b ∷ c ∷ []) z = absurd (omega arith)
word-said (a ∷ b ∷ c ∷ d ∷ []) z = absurd (omega arith)
word-said (a ∷ b ∷ c ∷ d ∷ e ∷ []) z = absurd (omega arith)
word-said (a ∷ b ∷ c ∷ d ∷ e ∷ f ∷ []) z = absurd (omega arith)
word-said (a ∷ b ∷ c ∷ d ∷ e ∷ f ∷ g ∷ []) z = absurd (omega arith)
word-said (a ∷ b ∷ c ∷ d ∷ e ∷ f ∷ g ∷ h ∷ i ∷ l) z = absurd (omega arith)

-- a digit below the others, and they without it
digit : (d x : ℕ) → d < 4 → (d + 4 * x) / 4 ^ 0 % 4 ≡ d
digit d x h = omega arith

above-digit : (w i : ℕ) → w / 4 ^ suc i ≡ w / 4 / 4 ^ i
above-digit w i = rw pow-succ' (sym (div-div-eq-div-mul w 4 (4 ^ i)))

app-above : (w i : ℕ) → app_at w (suc i) ≡ app_at (w / 4) i
app-above w i = rw (above-digit w i)

up_same : {A : Type 0} (n : ℕ) (f g : ℕ → A) → ((i : ℕ) → f i ≡ g i) → up_to n f ≡ up_to n g
unfolding up_to
up_same zero f g e = refl
up_same (suc n) f g e = rw (e 0, up_same n (λ i. f (suc i)) (λ i. g (suc i)) (λ i. e (suc i)))

four-pos : (n : ℕ) → 0 < 4 ^ n
four-pos zero = omega arith
four-pos (suc n) = let h = four-pos n in rw pow-succ' (omega arith)

kept : (n w : ℕ) → word_in (up_to n (app_at w)) ≡ w % 4 ^ n
unfolding up_to word_in
kept zero w = omega arith
kept (suc n) w =
    let e : word_in (up_to n (λ i. app_at w (suc i))) ≡ w / 4 % 4 ^ n =
    ap word_in (up_same n (λ i. app_at w (suc i)) (app_at (w / 4)) (app-above w)) ∙ kept n (w / 4) in
    let d : column_of (state_no (w / 4 ^ 0 % 4)) ≡ w % 4 = column-back (w / 4 ^ 0 % 4) (omega arith) ∙ omega arith in
    let m : w % (4 ^ n * 4) ≡ (w / 4 % 4 ^ n) * 4 + w % 4 = mod-mul w (four-pos n) (omega arith) in
    rw (d, e, pow-suc) (omega arith)

pub states-kept : (w : ℕ) → states_word (apps_in w) ≡ w % 65536
unfolding apps_in
states-kept w = word-said (up_to 8 (app_at w)) (up-length 8 (app_at w)) ∙ kept 8 w

back : (l : List App) → up_to (length l) (app_at (word_in l)) ≡ l
unfolding up_to word_in
back [] = refl
back (a ∷ l) =
    let c : ℕ = column_of a.state in
    let x : ℕ = word_in l in
    let q : (c + 4 * x) / 4 ≡ x = let h = column-small a.state in omega arith in
    let e : up_to (length l) (λ i. app_at (c + 4 * x) (suc i)) ≡ l =
    up_same (length l) (λ i. app_at (c + 4 * x) (suc i)) (app_at x) (λ i. app-above (c + 4 * x) i ∙ ap (λ (n : ℕ). app_at n i) q)
    ∙ back l in
    rw (digit c x (column-small a.state), state-back a.state, e)

-- the states of eight applications, each taken out again
pub states-back : (l : List App) → length l ≡ 8 → apps_in (states_word l) ≡ l
unfolding apps_in
states-back l z = ap (λ (w : ℕ). up_to 8 (app_at w)) (word-said l z) ∙ ap (λ (n : ℕ). up_to n (app_at (word_in l))) (sym z) ∙ back l

-- the word of a list of so many states
pub states-small : (n : ℕ) (l : List App) → length l ≤ n → word_in l < 4 ^ n
unfolding word_in
states-small n [] h = four-pos n
states-small zero (a ∷ l) h = absurd (omega arith)
states-small (suc n) (a ∷ l) h =
    let s = states-small n l (omega arith) in
    let c = column-small a.state in
    rw pow-succ' (omega arith)
