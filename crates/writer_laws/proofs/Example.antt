-- The terms can be met: the numbers from the last down to 0 are an order, and so is one with a repeat.
--   falling, again
use mathlib.Core.Logic.{⊎_elim}
use mathlib.Core.List.Memᴰ
use mathlib.Core.List.{List, [], ◌∷◌, Memᴰ}
use Prim.Native.Nat.{ℕ, zero, suc, ◌≤◌, ◌<◌}
use native.Mathlib.Omega.{arith}
use Rattle.base.proofs.Cases.{same_or}
use Rattle.writer_laws.specs.Offers.{AnyOrder}

-- n - 1 down to 0
abbrev pub down : ℕ → List ℕ
down zero = []
down (suc n) = n ∷ down n

down-below : (n k : ℕ) → Memᴰ k (down n) → k < n
down-below zero k m = absurd (Memᴰ.not-nil m)
down-below (suc n) k m = ⊎_elim (λ e. omega arith) (λ t. let l : k < n = down-below n k t in omega arith) (Memᴰ.cases_cons m)

down-all : (n k : ℕ) → k < n → Memᴰ k (down n)
down-all zero k l = absurd (omega arith)
down-all (suc n) k l =
    ⊎_elim (λ e. Memᴰ.head e) (λ ne. Memᴰ.tail (down-all n k (omega arith))) (same_or k n)

pub falling : (last : ℕ) → AnyOrder last (down (suc last))
falling last =
    record {
      known = λ k m. let l : k < suc last = down-below (suc last) k m in omega arith;
      each = λ k l. down-all (suc last) k (omega arith);
    }

-- any order, and one of its numbers once more
pub again : (last k : ℕ) (ks : List ℕ) → k ≤ last → AnyOrder last ks → AnyOrder last (k ∷ ks)
again last k ks l o =
    record {
      known = λ j m. ⊎_elim (λ e. omega arith) (λ t. o.known j t) (Memᴰ.cases_cons m);
      each = λ j i. Memᴰ.tail (o.each j i);
    }
