-- Comparing two runs of bytes by pieces.
--   piece-end      a piece, byte by byte
--   whole-piece    two runs as one piece
--   tail-differs, one_piece, two-pieces      runs of a piece's bytes, or up to twice as many, are the same exactly when their two pieces are
use mathlib.Core.Path.{◌≡◌, sym, ap, ◌∙◌}
use mathlib.Core.Bool.{Bool, true, false}
use mathlib.Core.List.{List}
use Prim.Native.Nat.{ℕ, ◌+◌, ◌-◌, ◌<◌, ◌≤◌}
use native.Mathlib.Nat.{zero-add}
use native.Mathlib.Omega.{arith}
use lib.Dec.{eqb, ltb}
use lib.ListN.{length}
use borrow.Author.Tests.{eq-eqb, ltb-true, ltb-false}
use Rattle.base.specs.Below.{every}
use Rattle.base.specs.Bytes.{byte, same}
use Rattle.base.proofs.Below.{every-all, every-each}
use Rattle.base.proofs.Cases.{by, unlike}

pub piece-end : {same : Bool} (f : ℕ → Bool) (i piece : ℕ) → i ≡ piece → same ≡ every i f → same ≡ every piece f
piece-end f i piece q e = e ∙ ap (λ n. every n f) q

module _ (a b : List ℕ) (n : length a ≡ length b) where
  abbrev alike : ℕ → Bool
  alike k = eqb (byte a k) (byte b k)

  whole : {r : Bool} → every (length a) alike ≡ r → r ≡ same a b
  unfolding same
  whole e = rw (eq-eqb (length a) (length b) n) (sym e)

  pub whole-piece : {r : Bool} → r ≡ every (length a) (λ k. alike (0 + k)) → r ≡ same a b
  whole-piece e = whole (sym (simp zero-add at e))

  module _ (piece : ℕ) (low : piece ≤ length a) where
    tail-in : every (length a) alike ≡ true → every piece (λ k. alike (length a - piece + k)) ≡ true
    tail-in t = every-all (λ k. alike (length a - piece + k)) piece (λ k h. every-each alike (length a) (length a - piece + k) (omega arith) t)

    front-in : every (length a) alike ≡ true → every piece (λ k. alike (0 + k)) ≡ true
    front-in t = every-all (λ k. alike (0 + k)) piece (λ k h. every-each alike (length a) (0 + k) (omega arith) t)

    pub tail-differs : {d : Bool} → d ≡ every piece (λ k. alike (length a - piece + k)) → d ≡ false → false ≡ same a b
    tail-differs e z =
        whole
        (by (every (length a) alike)
        (λ t. absurd (unlike (sym (tail-in t) ∙ sym e ∙ z)))
        (λ f. f))

    module _ {d : Bool} (e : d ≡ every piece (λ k. alike (length a - piece + k))) (z : d ≡ true) where
      tail : (k : ℕ) → length a - piece ≤ k → k < length a → alike k ≡ true
      tail k l h =
          let at : length a - piece + (k - (length a - piece)) ≡ k = omega arith in
          ap alike (sym at) ∙ every-each (λ k. alike (length a - piece + k)) piece (k - (length a - piece)) (omega arith) (sym e ∙ z)

      pub one_piece : length a ≡ piece → true ≡ same a b
      one_piece s = whole (every-all alike (length a) (λ k h. tail k (omega arith) h))

      pub two-pieces : {c : Bool} → length a ≤ piece + piece → c ≡ every piece (λ k. alike (0 + k)) → c ≡ same a b
      two-pieces {c} high q =
          by c
          (λ t.
          rw t
          (whole
          (every-all alike (length a)
          (λ k h.
          by (ltb k piece)
          (λ l. ap alike (sym (zero-add k)) ∙ every-each (λ k. alike (0 + k)) piece k (ltb-true _ _ l) (sym q ∙ t))
          (λ l. let m : piece ≤ k = ltb-false _ _ l in tail k (omega arith) h)))))
          (λ f.
          rw f
          (whole
          (by (every (length a) alike) (λ t. absurd (unlike (sym (front-in t) ∙ sym q ∙ f))) (λ g. g))))
