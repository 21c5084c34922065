-- `same` says whether two lists of bytes are equal.
--   same_refl, same-equal     it holds of equal lists, and of no others
--   same-unequal              where it fails the lists differ
use mathlib.Core.Path.{◌≡◌, refl, sym, ap, ◌∙◌}
use mathlib.Core.Bool.{true, false}
use mathlib.Core.List.{List}
use Prim.Native.Nat.{ℕ}
use lib.Dec.{eqb}
use lib.ListN.{length}
use lib.Seq.{ext_get_or}
use borrow.Author.Tests.{eqb-true, eq-eqb}
use Rattle.base.specs.Below.{every}
use Rattle.base.specs.Bytes.{byte, same}
use Rattle.base.proofs.Cases.{unlike, and_left, and_right}
use Rattle.base.proofs.Below.{every-all, every-each}

pub same_refl : (a : List ℕ) → same a a ≡ true
unfolding same
same_refl a =
    rw (eq-eqb (length a) (length a) refl, every-all (λ k. eqb (byte a k) (byte a k)) (length a) (λ k _. eq-eqb (byte a k) (byte a k) refl))

pub same-equal : (a b : List ℕ) → same a b ≡ true → a ≡ b
unfolding same
same-equal a b e =
    let n : length a ≡ length b = eqb-true _ _ (and_left (eqb (length a) (length b)) _ e) in
    let f : every (length a) (λ k. eqb (byte a k) (byte b k)) ≡ true = and_right (eqb (length a) (length b)) _ e in
    ext_get_or 0 a b n (λ k h. eqb-true _ _ (every-each (λ k. eqb (byte a k) (byte b k)) (length a) k h f))

pub same-unequal : (a b : List ℕ) → same a b ≡ false → a ≡ b → ⊥
same-unequal a b e q = unlike (sym (same_refl a) ∙ ap (same a) q ∙ e)
