-- What the steps of the code come to.
--   same-other       runs of two lengths are not the same
--   wiped-back, put_back                          a part comes back to the store
--   has-place, began, nowhere, is-place, is-berth    what the tests for a place and for a berth say
--   wiped-done, put-done, stands-done, copied-done   a call that names a berth
--   put-long, put-nowhere, wiped-nowhere, stands-long, stands-nowhere, copied-long, copied-narrow, copied-nowhere    one that does not
--   so_far-none, so_far-one, so_far-skipped, so_far-all, wiped-where, wiped-nothing, wiped-whole, placeless, wiped-each    the berths of a place
use Rattle.std.specs.Prelude.{Option, Some, None, if◌then◌else◌}
use mathlib.Core.Path.{◌≡◌, refl, sym, ap, ◌∙◌}
use mathlib.Core.Bool.{Bool, true, false, ◌&&◌}
use mathlib.Core.List.{List, ◌++◌}
use Prim.Native.Nat.{ℕ, zero, suc, ◌+◌, ◌-◌, ◌*◌, ◌≤◌, ◌<◌}
use native.Mathlib.Omega.{arith}
use native.Mathlib.Numerals.{add-one}
use lib.Dec.{eqb, ltb, leb}
use borrow.Rule.Slice.PartMut.{mid_of, put_mid, mid_len}
use lib.Seq.{drop-drop}
use Rattle.berth.specs.Berth.{berth_size, store_size, places, sections, begins_at, laid, padded, put, wiped, wiped_where, standing}
use Rattle.berth.specs.Calls.{is_place, is_berth, goes_in, begin_in, put_in, wiped_in, wiped_where_in, stands_in, copied_in}
use Rattle.berth.proofs.Berths.{where-length, where-same}
use Rattle.berth.proofs.Laid.{zeros-length, zeros-add, laid-length, laid_none, laid_beside}
use lib.ListN.{length, drop}
use borrow.Author.Tests.{eq-eqb, ne_eqb, eqb-true, ltb-true, lt-ltb, le-leb, lt-leb}
use Rattle.base.specs.Bytes.{part, same, zeros}
use Rattle.base.specs.Below.{every}
use Rattle.base.specs.Bits.{bit}
use Rattle.base.proofs.Cases.{by, unlike, and_left, and_right}
use Rattle.base.proofs.Below.{every-each}

module _ (a b : List ℕ) where
  pub same-other : (length a ≡ length b → ⊥) → false ≡ same a b
  unfolding same
  same-other h = rw (ne_eqb _ _ h)

-- a part that was lent comes back with other bytes
lent_back : (old : List ℕ) (at end : ℕ) (bytes : List ℕ) → at ≤ end → length bytes ≡ end - at → put_mid at (end - at) old bytes ≡ laid old at bytes
unfolding laid
lent_back old at end bytes h e = rw (drop-drop, ← e)

module _ (old : List ℕ) (from size : ℕ) (h : from + size ≤ length old) where
  pub wiped-back : (lent : List ℕ) → lent ≡ zeros (length (mid_of from (from + size - from) old))
      → put_mid from (from + size - from) old lent ≡ laid old from (zeros size)
  wiped-back lent e =
      let n : length (mid_of from (from + size - from) old) ≡ from + size - from = mid_len from (from + size) old h in
      let k : from + size - from ≡ size = omega arith in
      lent_back old from (from + size) lent (omega arith) (ap length e ∙ zeros-length _ ∙ n) ∙ ap (laid old from) (e ∙ ap zeros (n ∙ k))

  -- the section, and then the zeros after it
  module _ (section : List ℕ) (l : length section ≤ size) where
    pub put_back : (copied rest : List ℕ)
        → copied ≡ section
        → rest ≡ zeros (length (mid_of (from + length section) (from + size - (from + length section)) (put_mid from (from + length section - from) old copied)))
        → put_mid (from + length section) (from + size - (from + length section)) (put_mid from (from + length section - from) old copied) rest
        ≡ laid old from (padded size section)
    unfolding padded
    put_back copied rest c f =
        let at = from + length section in
        let end = from + size in
        let first = put_mid from (at - from) old copied in
        let k : length section ≡ at - from = omega arith in
        let m : first ≡ laid old from section =
        lent_back old from at copied (omega arith) (ap length c ∙ k) ∙ ap (laid old from) c in
        let w : length first ≡ length old = ap length m ∙ laid-length old from section (omega arith) in
        let b : length (mid_of at (end - at) first) ≡ end - at = mid_len at end first (omega arith) in
        let z : end - at ≡ size - length section = omega arith in
        lent_back first at end rest (omega arith) (ap length f ∙ zeros-length _ ∙ b)
        ∙ ap (λ s. laid s at rest) m
        ∙ ap (laid (laid old from section) at) (f ∙ ap zeros (b ∙ z))
        ∙ laid_beside old from section (omega arith) (zeros (size - length section)) (omega arith)

and_none : (a : Bool) → a && false ≡ false
and_none true = refl
and_none false = refl

-- what is so of a berth that a store has, which begins at a place
pub record Began (size p n from : ℕ) : Type 0 where
  pub whole : size ≡ store_size
  pub place : p < places
  pub number : n < sections
  pub at : from ≡ begins_at berth_size p n
  pub room : from + berth_size ≤ size

pub has-place : {size p : ℕ} → is_place size p ≡ true → (size ≡ store_size) × (p < places)
unfolding is_place
has-place {size} {p} e = (eqb-true _ _ (and_left (eqb size store_size) (ltb p places) e), ltb-true _ _ (and_right (eqb size store_size) (ltb p places) e))

pub began : {size p n from : ℕ} → Some from ≡ begin_in size p n → Began size p n from
unfolding begin_in is_berth
began {size} {p} {n} {from} e =
    by (is_berth size p n)
    (λ t.
    let q : Some from ≡ Some (begins_at berth_size p n) = rw t at e in
    let at : from ≡ begins_at berth_size p n = cc in
    let a = has-place (and_left (is_place size p) (ltb n sections) t) in
    let whole : size ≡ store_size = a.0 in
    let place : p < places = a.1 in
    let number : n < sections = ltb-true _ _ (and_right (is_place size p) (ltb n sections) t) in
    record { whole = whole; place = place; number = number; at = at; room = omega arith })
    (λ t. let q : Some from ≡ None = rw t at e in cc)

pub nowhere : (size p n : ℕ) → None ≡ begin_in size p n → is_berth size p n ≡ false
unfolding begin_in
nowhere size p n e =
    by (is_berth size p n)
    (λ t. let q : ◌≡◌ {A = Option ℕ} None (Some (begins_at berth_size p n)) = rw t at e in cc)
    (λ t. t)

pub is-place : (size p : ℕ) → size ≡ store_size → p < places → is_place size p ≡ true
unfolding is_place
is-place size p e h = rw (eq-eqb size store_size e, lt-ltb p places h)

pub is-berth : (size p n : ℕ) → size ≡ store_size → p < places → n < sections → is_berth size p n ≡ true
unfolding is_berth
is-berth size p n e h l = rw (is-place size p e h, lt-ltb n sections l)

-- a call that names a berth
module _ (store : List ℕ) (p n from : ℕ) (w : Began (length store) p n from) where
  named : is_berth (length store) p n ≡ true
  named = is-berth (length store) p n w.whole w.place w.number

  pub wiped-done : laid store from (zeros berth_size) ≡ wiped_in store p n
  unfolding wiped_in wiped
  wiped-done = rw (w.at, named)

  pub put-done : (section : List ℕ) → length section ≤ berth_size → laid store from (padded berth_size section) ≡ put_in store p n section
  unfolding put_in put goes_in
  put-done section h = rw (w.at, named, le-leb _ _ h)

  module _ (count : ℕ) (h : count ≤ berth_size) where
    seen : part store from (from + count - from) ≡ standing store p n count
    unfolding standing
    seen = let k : from + count - from ≡ count = omega arith in rw (k, w.at)

    pub stands-done : (section : List ℕ) → same (part store from (from + count - from)) section ≡ stands_in store p n count section
    unfolding stands_in goes_in
    stands-done section = rw (seen, named, le-leb _ _ h)

    pub copied-done : (out : List ℕ) → count ≤ length out → part store from (from + count - from) ++ drop count out ≡ copied_in store p n count out
    unfolding copied_in goes_in
    copied-done out l = rw (seen, named, le-leb _ _ h, le-leb _ _ l)

-- a call that names none, or brings too much
module _ (store : List ℕ) (p n : ℕ) where
  module _ (section : List ℕ) where
    pub put-long : berth_size < length section → put_in store p n section ≡ store
    unfolding put_in goes_in
    put-long h = rw (lt-leb _ _ h, and_none (is_berth (length store) p n))

    pub put-nowhere : is_berth (length store) p n ≡ false → put_in store p n section ≡ store
    unfolding put_in goes_in
    put-nowhere e = rw e

  pub wiped-nowhere : is_berth (length store) p n ≡ false → wiped_in store p n ≡ store
  unfolding wiped_in
  wiped-nowhere e = rw e

  module _ (count : ℕ) (section : List ℕ) where
    pub stands-long : berth_size < count → stands_in store p n count section ≡ false
    unfolding stands_in goes_in
    stands-long h = rw (lt-leb _ _ h, and_none (is_berth (length store) p n))

    pub stands-nowhere : is_berth (length store) p n ≡ false → stands_in store p n count section ≡ false
    unfolding stands_in goes_in
    stands-nowhere e = rw e

  module _ (count : ℕ) (out : List ℕ) where
    pub copied-long : berth_size < count → copied_in store p n count out ≡ out
    unfolding copied_in goes_in
    copied-long h = rw (lt-leb _ _ h, and_none (is_berth (length store) p n))

    pub copied-narrow : length out < count → copied_in store p n count out ≡ out
    unfolding copied_in goes_in
    copied-narrow h = rw (lt-leb _ _ h, and_none (is_berth (length store) p n && leb count berth_size))

    pub copied-nowhere : is_berth (length store) p n ≡ false → copied_in store p n count out ≡ out
    unfolding copied_in goes_in
    copied-nowhere e = rw e

-- the berths of a place that a test picks, one by one
module _ (picks : ℕ → Bool) (old : List ℕ) (p : ℕ) where
  pub wiped-where : is_place (length old) p ≡ true → wiped_where picks sections old p ≡ wiped_where_in picks old p
  unfolding wiped_where_in
  wiped-where e = rw e

  pub wiped-nothing : is_place (length old) p ≡ false → wiped_where_in picks old p ≡ old
  unfolding wiped_where_in
  wiped-nothing e = rw e

  -- .. of a store that is whole and has the place; of another, nothing
  unfoldable pub wiped_so_far : ℕ → List ℕ
  wiped_so_far k = if is_place (length old) p then wiped_where picks k old p else old

  pub so_far-none : old ≡ wiped_so_far 0
  unfolding wiped_so_far wiped_where
  so_far-none = by (is_place (length old) p) (λ t. rw t) (λ t. rw t)

  pub so_far-one : (store : List ℕ) (k : ℕ) → k < sections → picks k ≡ true → store ≡ wiped_so_far k → wiped_in store p k ≡ wiped_so_far (k + 1)
  unfolding wiped_so_far wiped_where wiped_in is_berth
  so_far-one store k h t e =
      by (is_place (length old) p)
      (λ y.
      let whole = has-place y in
      let q : store ≡ wiped_where picks k old p = rw y at e in
      let long : length store ≡ length old = ap length q ∙ where-length picks old whole.0 p whole.1 k (omega arith) ∙ sym whole.0 in
      rw (y, long, y, lt-ltb k sections h, add-one, t) (ap (λ s. wiped s p k) q))
      (λ y. let q : store ≡ old = rw y at e in rw (y, q, y))

  pub so_far-skipped : (store : List ℕ) (k : ℕ) → picks k ≡ false → store ≡ wiped_so_far k → store ≡ wiped_so_far (k + 1)
  unfolding wiped_so_far wiped_where
  so_far-skipped store k t e = by (is_place (length old) p) (λ y. rw (y, add-one, t) (rw y at e)) (λ y. rw y (rw y at e))

  pub so_far-all : (store : List ℕ) (k : ℕ) → k ≡ sections → store ≡ wiped_so_far k → store ≡ wiped_where_in picks old p
  unfolding wiped_so_far wiped_where_in
  so_far-all store k q e = e ∙ ap wiped_so_far q

-- all of the first k berths at once
wiped-all : (store : List ℕ) (p k : ℕ) → length store ≡ store_size → p < places → k ≤ sections
    → wiped_where (λ _. true) k store p ≡ laid store (begins_at berth_size p 0) (zeros (berth_size * k))
unfolding wiped_where wiped
wiped-all store p zero e h l = sym (laid_none store (begins_at berth_size p 0))
wiped-all store p (suc k) e h l =
    let at = begins_at berth_size p 0 in
    let s : begins_at berth_size p k ≡ at + length (zeros (berth_size * k)) = rw (zeros-length (berth_size * k)) (omega arith) in
    let m : berth_size * k + berth_size ≡ berth_size * suc k = omega arith in
    ap (λ l. laid l (begins_at berth_size p k) (zeros berth_size)) (wiped-all store p k e h (omega arith))
    ∙ ap (λ t. laid (laid store at (zeros (berth_size * k))) t (zeros berth_size)) s
    ∙ laid_beside store at (zeros (berth_size * k)) (omega arith) (zeros berth_size) (omega arith)
    ∙ ap (laid store at) (zeros-add (berth_size * k) berth_size ∙ ap zeros m)

-- .. from where the first of them begins
pub wiped-whole : (store : List ℕ) (p from : ℕ) → Began (length store) p 0 from
    → laid store from (zeros (berth_size * sections)) ≡ wiped_where_in (λ _. true) store p
wiped-whole store p from b =
    ap (λ t. laid store t (zeros (berth_size * sections))) b.at
    ∙ sym (wiped-all store p sections b.whole b.place (omega arith))
    ∙ wiped-where (λ _. true) store p (is-place (length store) p b.whole b.place)

-- a store that has no first berth of a place does not have the place
pub placeless : (size p : ℕ) → is_berth size p 0 ≡ false → is_place size p ≡ false
unfolding is_berth
placeless size p e = by (is_place size p) (λ t. let q : true ≡ false = rw t at e in absurd (unlike q)) (λ t. t)

each_set : every sections (bit 65535) ≡ true
unfolding every
each_set = refl

-- a mask that picks each of them
pub wiped-each : (mask : ℕ) (store : List ℕ) (p : ℕ) → mask ≡ 65535 → wiped_where_in (λ _. true) store p ≡ wiped_where_in (bit mask) store p
unfolding wiped_where_in
wiped-each mask store p e =
    by (is_place (length store) p)
    (λ t. rw (t, e) (where-same (λ _. true) (bit 65535) sections store p (λ m h. sym (every-each (bit 65535) sections m h each_set))))
    (λ t. rw t)
