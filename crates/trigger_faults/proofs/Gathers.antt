-- Laws for a loop without an exit, which gathers a test over the numbers below n.
--   some-gathers, some-gathered   a turn, and the loop's end
use mathlib.Core.Path.{◌≡◌, sym, ap, ◌∙◌}
use mathlib.Core.Bool.{Bool, ◌||◌}
use Prim.Native.Nat.{ℕ, ◌+◌, ◌≤◌}
use native.Mathlib.Omega.{arith}
use Rattle.base.specs.Below.{some}
use Rattle.base.proofs.Below.{some_next}

pub some-gathers : (f : ℕ → Bool) (i : ℕ) {r x : Bool} → r ≡ some i f → x ≡ f i → r || x ≡ some (i + 1) f
some-gathers f i e h = rw (e, h) (sym (some_next f i))

pub some-gathered : (f : ℕ → Bool) (n i : ℕ) {r : Bool} → i ≤ n → n ≤ i → r ≡ some i f → r ≡ some n f
some-gathered f n i l g e = let q : i ≡ n = omega arith in e ∙ ap (λ k. some k f) q
