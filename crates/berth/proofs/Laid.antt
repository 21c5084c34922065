-- Laws of `laid`, of any bytes at any place of any store.
--   zeros-length, padded-length      how many bytes
--   zeros-add, zeros-first           zeros after zeros, and the first of them
--   laid-length                      the store keeps its length
--   laid_none                        nothing laid changes nothing
--   laid-here                        what was laid stands there
--   laid-before, laid-after          the bytes before and after are as they were
--   laid_beside                      two that lie side by side are laid as one
use mathlib.Core.Path.{◌≡◌, sym, ap, ◌∙◌}
use mathlib.Core.List.{List, ◌++◌, append_assoc}
use Prim.Native.Nat.{ℕ, ◌+◌, ◌-◌, ◌≤◌}
use native.Mathlib.Nat.{add_assoc, add-zero}
use native.Mathlib.Omega.{arith}
use lib.ListN.{length, take, drop, length-append, length-take, length-drop, length-replicate, replicate-append-replicate, take-append-drop}
use lib.Seq.{take_at, drop_at, drop-drop, length-take-le, take-append-le, drop-append-le, drop-append-add}
use Rattle.base.specs.Bytes.{part, zeros}
use Rattle.berth.specs.Berth.{laid, padded}

pub zeros-length : (n : ℕ) → length (zeros n) ≡ n
unfolding zeros
zeros-length n = length-replicate n 0

pub zeros-add : (n m : ℕ) → zeros n ++ zeros m ≡ zeros (n + m)
unfolding zeros
zeros-add n m = replicate-append-replicate n m 0

pub zeros-first : (k n : ℕ) → k ≤ n → take k (zeros n) ≡ zeros k
zeros-first k n h =
    let e : k + (n - k) ≡ n = omega arith in
    ap (λ m. take k (zeros m)) (sym e) ∙ ap (take k) (sym (zeros-add k (n - k))) ∙ take_at (zeros k) _ k (zeros-length k)

pub padded-length : (size : ℕ) (bytes : List ℕ) → length bytes ≤ size → length (padded size bytes) ≡ size
unfolding padded
padded-length size bytes h = simp (length-append, zeros-length) (omega arith)

-- a part that lies in the first of two lists
part_left : (a b : List ℕ) (from k : ℕ) → from + k ≤ length a → part (a ++ b) from k ≡ part a from k
part_left a b from k h =
    ap (take k) (drop-append-le from a b (omega arith)) ∙ take-append-le k (drop from a) b (simp length-drop (omega arith))

-- .. and in the second
drop-right : (a b : List ℕ) (n from : ℕ) → length a ≡ n → n ≤ from → drop from (a ++ b) ≡ drop (from - n) b
drop-right a b n from e h =
    let s : from ≡ length a + (from - n) = omega arith in
    ap (λ t. drop t (a ++ b)) s ∙ drop-append-add a b (from - n)

pub laid_none : (store : List ℕ) (at : ℕ) → laid store at (zeros 0) ≡ store
unfolding laid zeros
laid_none store at = rw add-zero (take-append-drop at store)

module _ (store : List ℕ) (at : ℕ) (bytes : List ℕ) where
  pub laid-length : at + length bytes ≤ length store → length (laid store at bytes) ≡ length store
  unfolding laid
  laid-length h = simp (length-append, length-take, length-drop) (omega arith)

  module _ (h : at ≤ length store) where
    laid_from : drop at (laid store at bytes) ≡ bytes ++ drop (at + length bytes) store
    unfolding laid
    laid_from = drop_at (take at store) _ at (length-take-le at store h)

    pub laid-here : (k : ℕ) → k ≤ length bytes → part (laid store at bytes) at k ≡ take k bytes
    laid-here k l = ap (take k) laid_from ∙ take-append-le k bytes _ l

    pub laid-before : (from k : ℕ) → from + k ≤ at → part (laid store at bytes) from k ≡ part store from k
    unfolding laid
    laid-before from k l =
        let n : length (take at store) ≡ at = length-take-le at store h in
        part_left (take at store) _ from k (omega arith)
        ∙ sym (part_left (take at store) (drop at store) from k (omega arith))
        ∙ ap (λ s. part s from k) (take-append-drop at store)

    pub laid-after : (from : ℕ) → at + length bytes ≤ from → drop from (laid store at bytes) ≡ drop from store
    unfolding laid
    laid-after from l =
        let n : length (take at store ++ bytes) ≡ at + length bytes = simp (length-append, length-take) (omega arith) in
        let s : at + length bytes + (from - (at + length bytes)) ≡ from = omega arith in
        ap (drop from) (sym (append_assoc (take at store) bytes _))
        ∙ drop-right (take at store ++ bytes) _ (at + length bytes) from n l
        ∙ drop-drop (from - (at + length bytes)) (at + length bytes) store
        ∙ ap (λ t. drop t store) s

    -- what is laid beside it, laid with it
    pub laid_beside : (more : List ℕ) → at + length bytes ≤ length store
        → laid (laid store at bytes) (at + length bytes) more ≡ laid store at (bytes ++ more)
    unfolding laid
    laid_beside more l =
        let end = at + length bytes in
        let n : length (take at store ++ bytes) ≡ end = simp (length-append, length-take) (omega arith) in
        let front : take end (laid store at bytes) ≡ take at store ++ bytes =
        ap (take end) (sym (append_assoc (take at store) bytes _)) ∙ take_at (take at store ++ bytes) _ end n in
        let back : drop (end + length more) (laid store at bytes) ≡ drop (at + length (bytes ++ more)) store =
        laid-after (end + length more) (omega arith) ∙ ap (λ t. drop t store) (add_assoc at _ _ ∙ ap (λ t. at + t) (sym (length-append bytes more))) in
        rw (front, back) (simp append_assoc)
