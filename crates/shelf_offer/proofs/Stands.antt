-- The calls on berths, at a berth of a whole store and with bytes that go into it.
--   put-at, wiped-at, wiped-none, stands_at, stood      what each call does there
--   other_length                            bytes of another length do not stand there
use mathlib.Core.Path.{◌≡◌, refl, sym, ◌∙◌}
use mathlib.Core.List.{List}
use mathlib.Core.Bool.{Bool, false}
use Prim.Native.Nat.{ℕ, zero, suc, ◌<◌, ◌≤◌}
use native.Mathlib.Omega.{arith}
use lib.Pow.{pow_pos}
use lib.ListN.{length}
use borrow.Author.Tests.{eq-eqb, ne_eqb, lt-ltb, le-leb}
use Rattle.base.specs.Bits.{bit}
use Rattle.base.specs.Bytes.{same}
use Rattle.base.proofs.Bits.{set-big}
use Rattle.base.proofs.Cases.{by}
use Rattle.berth.specs.Berth.{berth_size, store_size, places, sections, put, wiped_where, standing}
use Rattle.berth.proofs.Berths.{standing-length}
use Rattle.berth.specs.Calls.{is_place, is_berth, goes_in, put_in, wiped_where_in, stands_in}

no-bit : (k : ℕ) → bit 0 k ≡ false
no-bit k = by (bit 0 k) (λ t. absurd (omega (arith, set-big 0 k t, pow_pos k))) (λ f. f)

module _ (store : List ℕ) (p : ℕ) (w : length store ≡ store_size) (l : p < places) where
  pub wiped-at : (picks : ℕ → Bool) → wiped_where_in picks store p ≡ wiped_where picks sections store p
  unfolding wiped_where_in is_place
  wiped-at picks = rw (eq-eqb (length store) store_size w, lt-ltb p places l)

  none-picked : (k : ℕ) → wiped_where (bit 0) k store p ≡ store
  unfolding wiped_where
  none-picked zero = refl
  none-picked (suc k) = rw (no-bit k) (none-picked k)

  -- a mask without bits picks no berth
  pub wiped-none : wiped_where_in (bit 0) store p ≡ store
  wiped-none = wiped-at (bit 0) ∙ none-picked sections

  module _ (n : ℕ) (m : n < sections) where
    pub put-at : (bytes : List ℕ) → length bytes ≤ berth_size → put_in store p n bytes ≡ put store p n bytes
    unfolding put_in goes_in is_berth is_place
    put-at bytes h =
        rw (eq-eqb (length store) store_size w, lt-ltb p places l, lt-ltb n sections m, le-leb (length bytes) berth_size h)

    pub stands_at : (count : ℕ) (bytes : List ℕ) → count ≤ berth_size → stands_in store p n count bytes ≡ same (standing store p n count) bytes
    unfolding stands_in goes_in is_berth is_place
    stands_at count bytes h =
        rw (eq-eqb (length store) store_size w, lt-ltb p places l, lt-ltb n sections m, le-leb count berth_size h)

    -- a call with a number and a length that were read, and what its test showed
    pub stood :
        {k count : ℕ}
        {r t : Bool}
        (held : ℕ)
        (bytes : List ℕ)
        → held ≤ berth_size
        → k ≡ n
        → count ≡ held
        → r ≡ stands_in store p k count bytes
        → r ≡ t
        → same (standing store p n held) bytes ≡ t
    stood {r = r} held bytes h e q a b =
        let s : r ≡ stands_in store p n held bytes = rw (e, q) at a in
        sym (stands_at held bytes h) ∙ sym s ∙ b

    -- bytes of another length than what is held
    pub other_length : (held : ℕ) (bytes : List ℕ) → held ≤ berth_size → (held ≡ length bytes → ⊥) → same (standing store p n held) bytes ≡ false
    unfolding same
    other_length held bytes h d = rw (standing-length store w p n l m held h, ne_eqb held (length bytes) d)
