-- Laws on what the type of a target is kept for.
--   known, other            the types below 6 have a kind each, and any other is reserved
--   kind-length, kind_uri   a length and the scheme of a URI are asked of the kind
--   kind-type, kind-not     the type of a kind that is not reserved, and of another kind
--   no-uri, no-length       what is asked of the kinds that the code does not name
use mathlib.Core.Path.{◌≡◌, refl, sym, ap, ◌∙◌}
use mathlib.Core.Bool.{false}
use Prim.Native.Nat.{ℕ, zero, suc, ◌<◌, ◌≤◌}
use native.Mathlib.Omega.{arith}
use lib.Dec.{leb, ltb}
use borrow.Author.Tests.{ne_eqb, lt-leb, ltb-true, ltb-false}
use Rattle.base.proofs.Cases.{by}
use Rattle.trigger_faults.specs.declared.Kind.{Kind}
use Rattle.trigger_faults.specs.Kinds.{type_of, kind_in}
use Rattle.trigger_faults.specs.Fields.{wrong_length, is_uri}
use Rattle.trigger_faults.proofs.Truth.{and_none}

pub known : (t : ℕ) → t < 6 → type_of (kind_in t) ≡ t
unfolding kind_in
known zero h = refl
known (suc zero) h = refl
known (suc (suc zero)) h = refl
known (suc (suc (suc zero))) h = refl
known (suc (suc (suc (suc zero)))) h = refl
known (suc (suc (suc (suc (suc zero))))) h = refl
known (suc (suc (suc (suc (suc (suc t)))))) h = absurd (omega arith)

pub other : (t : ℕ) → 6 ≤ t → kind_in t ≡ Kind.Reserved
unfolding kind_in
other t h =
    rw (
      ne_eqb t 0 (λ e. omega arith),
      ne_eqb t 1 (λ e. omega arith),
      ne_eqb t 2 (λ e. omega arith),
      ne_eqb t 3 (λ e. omega arith),
      ne_eqb t 4 (λ e. omega arith),
      ne_eqb t 5 (λ e. omega arith),
    )

high-uri : (t : ℕ) → 6 ≤ t → is_uri t ≡ false
unfolding is_uri
high-uri t h = rw (lt-leb t 5 (omega arith)) (and_none (leb 3 t))

high-length : (t n : ℕ) → 6 ≤ t → wrong_length t n ≡ false
unfolding wrong_length
high-length t n h = rw (ne_eqb t 0 (λ e. omega arith), ne_eqb t 1 (λ e. omega arith), ne_eqb t 2 (λ e. omega arith))

pub kind_uri : (t : ℕ) → is_uri (type_of (kind_in t)) ≡ is_uri t
kind_uri t =
    by (ltb t 6)
    (λ y. ap is_uri (known t (ltb-true _ _ y)))
    (λ y.
    let h : 6 ≤ t = ltb-false _ _ y in
    ap (λ k. is_uri (type_of k)) (other t h) ∙ high-uri 6 (omega arith) ∙ sym (high-uri t h))

pub kind-length : (t n : ℕ) → wrong_length (type_of (kind_in t)) n ≡ wrong_length t n
kind-length t n =
    by (ltb t 6)
    (λ y. ap (λ k. wrong_length k n) (known t (ltb-true _ _ y)))
    (λ y.
    let h : 6 ≤ t = ltb-false _ _ y in
    ap (λ k. wrong_length (type_of k) n) (other t h) ∙ high-length 6 n (omega arith) ∙ sym (high-length t n h))

pub kind-type : (t : ℕ) (k : Kind) → kind_in t ≡ k → (k ≡ Kind.Reserved → ⊥) → t ≡ type_of k
kind-type t k e d =
    by (ltb t 6)
    (λ y. sym (known t (ltb-true _ _ y)) ∙ ap type_of e)
    (λ y. let h : 6 ≤ t = ltb-false _ _ y in absurd (d (sym e ∙ other t h)))

-- a type whose kind is another than that of a number is not that number
pub kind-not : (t n : ℕ) → (kind_in t ≡ kind_in n → ⊥) → t ≡ n → ⊥
kind-not t n d e = d (ap kind_in e)

pub no-uri : (k : Kind) → (k ≡ Kind.AbsoluteUri → ⊥) → (k ≡ Kind.LidUri → ⊥) → (k ≡ Kind.HttpUri → ⊥) → false ≡ is_uri (type_of k)
unfolding is_uri
no-uri Kind.None a b c = refl
no-uri Kind.Module a b c = refl
no-uri Kind.Tap a b c = refl
no-uri Kind.AbsoluteUri a b c = absurd (a refl)
no-uri Kind.LidUri a b c = absurd (b refl)
no-uri Kind.HttpUri a b c = absurd (c refl)
no-uri Kind.Reserved a b c = refl

pub no-length : (k : Kind) (n : ℕ) → (k ≡ Kind.None → ⊥) → (k ≡ Kind.Module → ⊥) → (k ≡ Kind.Tap → ⊥) → false ≡ wrong_length (type_of k) n
unfolding wrong_length
no-length Kind.None n a b c = absurd (a refl)
no-length Kind.Module n a b c = absurd (b refl)
no-length Kind.Tap n a b c = absurd (c refl)
no-length Kind.AbsoluteUri n a b c = refl
no-length Kind.LidUri n a b c = refl
no-length Kind.HttpUri n a b c = refl
no-length Kind.Reserved n a b c = refl
