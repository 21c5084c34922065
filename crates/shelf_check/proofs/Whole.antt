-- The test in full: each case of a section, of a place and of a pair.
--   wrong-none, wrong-above, wrong-short, wrong-long      a section, by its length and the table's last
--   free-place, high-version, high-last, none-held, of-lengths   a place
--   free-first, differ, differ-wide, heads-differ, keys-alike   a pair
--   all-pairs, all-four      the record
use mathlib.Core.Path.{◌≡◌, refl, sym, ap, ◌∙◌}
use mathlib.Core.Bool.{Bool, true, false, not, ◌||◌}
use mathlib.Core.List.{List}
use Prim.Native.Nat.{ℕ, ◌+◌, ◌*◌, ◌/◌, ◌%◌, ◌^◌, ◌<◌, ◌≤◌}
use native.Mathlib.Nat.{zero-div}
use native.Mathlib.Omega.{arith}
use lib.Dec.{eqb, ltb}
use lib.ListN.{length, get_or}
use borrow.Author.Tests.{eq-eqb, ne_eqb, eqb-true, lt-ltb, le-ltb}
use Rattle.base.specs.Below.{some}
use Rattle.base.proofs.Below.{some-all, some-which, some-found}
use Rattle.base.proofs.Cases.{by, unlike}
use Rattle.shelf.specs.Record.{length_at, holds, wrong_at, alike, spoiled_place, spoiled_of, place_at}
use Rattle.base.specs.Bits.{bit}
use Rattle.shelf.specs.Layout.{table_in, taken_in, place_in, shelf_in}
use Rattle.shelf.specs.Calls.{length_among, last_among, version_among}
use Rattle.base.proofs.Bits.{one_set}
use Rattle.shelf.proofs.Numbers.{length-in, held_at, among-length, among-last, among-version, at-id, at-further}
use Rattle.shelf.specs.Layout.{key_number, rest_number, key_at}
use Rattle.key.specs.declared.Key.{Key}
use Rattle.key.specs.Key.{same_key}
use Rattle.key.proofs.Keys.{said-one, same_key_lem, is_one_lem, key-list}
use Rattle.shelf_check.specs.Fine.{any_alike, wide_number}
use Rattle.shelf_check.proofs.Four.{some-four, pairs}

last-of : (words : List ℕ) (p n : ℕ) → n < 16 → ltb (table_in words p).last n ≡ ltb (get_or words (67 + 4 * p) 0) n
unfolding table_in
last-of words p n h = refl

module _ (words : List ℕ) (fits : length words ≡ 96) (p : ℕ) (hp : p < 4) where
  -- a section that is held or not
  module _ (n : ℕ) (hn : n < 16) {size : ℕ} (s : size ≡ length_among words p n) where
    size_is : length_at (table_in words p) n ≡ size
    size_is = length-in words p n hn ∙ sym (s ∙ among-length words p fits hp n hn)

    pub wrong-none : size ≡ 0 → false ≡ wrong_at (table_in words p) n
    wrong-none z = rw (size_is, z)

    module _ (held : size ≡ 0 → ⊥) {last : ℕ} (l : last ≡ last_among words p) where
      last-is : ltb (table_in words p).last n ≡ ltb last n
      last-is = last-of words p n hn ∙ ap (λ x. ltb x n) (sym (l ∙ among-last words p fits hp))

      pub wrong-above : last < n → true ≡ wrong_at (table_in words p) n
      wrong-above a = rw (last-is, size_is, ne_eqb size 0 held, lt-ltb last n a)

      pub wrong-short : n ≤ last → size < 8 → true ≡ wrong_at (table_in words p) n
      wrong-short a b = rw (last-is, size_is, ne_eqb size 0 held, le-ltb last n a, lt-ltb size 8 b)

      pub wrong-long : n ≤ last → 8 ≤ size → ltb 1024 size ≡ wrong_at (table_in words p) n
      wrong-long a b = rw (last-is, size_is, ne_eqb size 0 held, le-ltb last n a, le-ltb size 8 b)

  -- a place
  pub free-place : (get_or words (64 + 4 * p) 0 / 256 ≡ 1 → ⊥) → false ≡ spoiled_place (place_in words p)
  unfolding spoiled_place place_in
  free-place d = rw (ne_eqb (get_or words (64 + 4 * p) 0 / 256) 1 d)

  module _ (t : get_or words (64 + 4 * p) 0 / 256 ≡ 1) where
    is-table : place_in words p ≡ table_in words p
    unfolding place_in
    is-table = rw (eq-eqb (get_or words (64 + 4 * p) 0 / 256) 1 t)

    version-is : {version : ℕ} → version ≡ version_among words p → ltb 31 (table_in words p).version ≡ ltb 31 version
    unfolding table_in
    version-is e = ap (ltb 31) (sym (e ∙ among-version words p fits hp))

    last-most : {last : ℕ} → last ≡ last_among words p → ltb 15 (table_in words p).last ≡ ltb 15 last
    unfolding table_in
    last-most e = ap (ltb 15) (sym (e ∙ among-last words p fits hp))

    taken-table : (table_in words p).taken ≡ true
    unfolding table_in
    taken-table = refl

    module _ {version : ℕ} (v : version ≡ version_among words p) where
      pub high-version : 31 < version → true ≡ spoiled_place (place_in words p)
      unfolding spoiled_place
      high-version h = rw (is-table, taken-table, version-is v, lt-ltb 31 version h)

      module _ (low : version ≤ 31) {last : ℕ} (l : last ≡ last_among words p) where
        pub high-last : 15 < last → true ≡ spoiled_place (place_in words p)
        unfolding spoiled_place
        high-last h = rw (is-table, taken-table, version-is v, le-ltb 31 version low, last-most l, lt-ltb 15 last h)

        module _ (few : last ≤ 15) where
          abbrev wrong : Bool
          wrong = some 16 (wrong_at (table_in words p))

          rest : spoiled_place (place_in words p) ≡ wrong || not (some 16 (holds (table_in words p)))
          unfolding spoiled_place
          rest = rw (is-table, taken-table, version-is v, le-ltb 31 version low, last-most l, le-ltb 15 last few)

          pub none-held : get_or words (80 + p) 0 ≡ 0 → true ≡ spoiled_place (place_in words p)
          none-held z =
              rw (rest, some-all (holds (table_in words p)) 16 (λ n h. held_at words p n h ∙ rw (z, zero-div (2 ^ n))))
              (by wrong (λ a. rw a) (λ a. rw a))

          pub of-lengths : get_or words (80 + p) 0 < 65536 → (get_or words (80 + p) 0 ≡ 0 → ⊥) → {r : Bool} → r ≡ wrong → r ≡ spoiled_place (place_in words p)
          of-lengths b d {r} e =
              let w = some-which (bit (get_or words (80 + p) 0)) 16 (one_set 16 (get_or words (80 + p) 0) b d) in
              rw (rest, some-found (holds (table_in words p)) 16 w.0 w.1 (held_at words p w.0 w.1 ∙ w.2), ← e)
              (by r (λ a. rw a) (λ a. rw a))

-- a pair
module _ (words : List ℕ) (p q : ℕ) where
  pub free-first : (get_or words (64 + 4 * p) 0 / 256 ≡ 1 → ⊥) → false ≡ alike (place_in words p) (place_in words q)
  unfolding alike place_in
  free-first d = rw (ne_eqb (get_or words (64 + 4 * p) 0 / 256) 1 d)

  -- places whose heads begin differently
  pub differ : (key_number words p ≡ key_number words q → ⊥) → alike (place_in words p) (place_in words q) ≡ false
  unfolding alike place_in table_in
  differ d =
      by (taken_in words p)
      (λ s.
      by (taken_in words q)
      (λ t.
      rw (s, t)
      (by (same_key (key_at words p) (key_at words q))
      (λ k.
      let one = said-one (key_at words p) (key_at words q) k in
      let table : get_or words (64 + 4 * p) 0 % 256 ≡ get_or words (64 + 4 * q) 0 % 256 = sym (at-id words p) ∙ (one.0 ∙ at-id words q) in
      let extension : get_or words (65 + 4 * p) 0 ≡ get_or words (65 + 4 * q) 0 = sym (at-further words p) ∙ (one.1 ∙ at-further words q) in
      absurd (d (omega (arith, eqb-true (get_or words (64 + 4 * p) 0 / 256) 1 s, eqb-true (get_or words (64 + 4 * q) 0 / 256) 1 t))))
      (λ k. k)))
      (λ t. rw (s, t)))
      (λ s. rw s)

  -- places whose heads begin alike, and of whose lists more differs
  same_rest : key_at words p ≡ key_at words q → get_or words (64 + 4 * p) 0 ≡ 479 → get_or words (64 + 4 * q) 0 ≡ 479
      → rest_number words p ≡ rest_number words q
  unfolding key_at
  same_rest k a b =
      let one = key-list (get_or words (64 + 4 * p) 0 % 256) (get_or words (65 + 4 * p) 0) (get_or words (84 + 3 * p) 0) (get_or words (85 + 3 * p) 0 * 65536 + get_or words (86 + 3 * p) 0) (omega arith) in
      let two = key-list (get_or words (64 + 4 * q) 0 % 256) (get_or words (65 + 4 * q) 0) (get_or words (84 + 3 * q) 0) (get_or words (85 + 3 * q) 0 * 65536 + get_or words (86 + 3 * q) 0) (omega arith) in
      let all = is_one_lem _ _ (sym one ∙ k ∙ two) in
      rw (all.2, all.3)

  taken-both : alike (place_in words p) (place_in words q) ≡ true → (taken_in words p ≡ true) × (taken_in words q ≡ true) × (key_at words p ≡ key_at words q)
  unfolding alike place_in table_in
  taken-both e =
      by (taken_in words p)
      (λ s.
      by (taken_in words q)
      (λ t. (s, t, same_key_lem _ _ (rw (s, t) at e)))
      (λ t. absurd (unlike (sym (rw (s, t) at e)))))
      (λ s. absurd (unlike (sym (rw s at e))))

  alike-wide : alike (place_in words p) (place_in words q) ≡ true → wide_number words p ≡ wide_number words q
  unfolding wide_number
  alike-wide e =
      let w = taken-both e in
      let table : get_or words (64 + 4 * p) 0 % 256 ≡ get_or words (64 + 4 * q) 0 % 256
      = sym (at-id words p) ∙ (ap (λ k. k.table) w.2 ∙ at-id words q) in
      let extension : get_or words (65 + 4 * p) 0 ≡ get_or words (65 + 4 * q) 0
      = sym (at-further words p) ∙ (ap (λ k. k.extension) w.2 ∙ at-further words q) in
      let first : get_or words (64 + 4 * p) 0 ≡ get_or words (64 + 4 * q) 0
      = omega (arith, eqb-true (get_or words (64 + 4 * p) 0 / 256) 1 w.0, eqb-true (get_or words (64 + 4 * q) 0 / 256) 1 w.1) in
      by (eqb (get_or words (64 + 4 * q) 0) 479)
      (λ l.
      let two : get_or words (64 + 4 * q) 0 ≡ 479 = eqb-true _ _ l in
      rw (same_rest w.2 (first ∙ two) two, first, extension, l))
      (λ l. rw (first, extension, l))

  pub differ-wide : ¬ (wide_number words p ≡ wide_number words q) → alike (place_in words p) (place_in words q) ≡ false
  differ-wide d = by (alike (place_in words p) (place_in words q)) (λ e. absurd (d (alike-wide e))) (λ e. e)

  module _ {m n : ℕ} (i : m ≡ key_number words p) (j : n ≡ key_number words q) where
    pub heads-differ : (m ≡ n → ⊥) → false ≡ alike (place_in words p) (place_in words q)
    heads-differ d = sym (differ (λ e. d (i ∙ e ∙ sym j)))

    -- places whose heads begin alike, where the first is taken
    pub keys-alike :
        get_or words (64 + 4 * p) 0 / 256 ≡ 1
        → get_or words (64 + 4 * p) 0 < 65536
        → get_or words (64 + 4 * q) 0 < 65536
        → m ≡ n
        → {r : Bool} {k l : Key}
        → r ≡ same_key k l
        → k ≡ key_at words p
        → l ≡ key_at words q
        → r ≡ alike (place_in words p) (place_in words q)
    unfolding alike place_in table_in
    keys-alike t u v e f g h =
        let same : key_number words p ≡ key_number words q = sym i ∙ e ∙ j in
        f ∙ rw (eq-eqb (get_or words (64 + 4 * p) 0 / 256) 1 t, eq-eqb (get_or words (64 + 4 * q) 0 / 256) 1 (omega arith), g, h)

-- a place's number, as it is made
module _ (words : List ℕ) (p : ℕ) {n : ℕ} (e : n ≡ key_number words p) where
  pub wide-plain : (get_or words (64 + 4 * p) 0 ≡ 479 → ⊥) → n ≡ wide_number words p
  unfolding wide_number
  wide-plain d = rw (ne_eqb (get_or words (64 + 4 * p) 0) 479 d) e

  pub wide-list : get_or words (64 + 4 * p) 0 ≡ 479 → {r : ℕ} → r ≡ rest_number words p → n + r % 2 ^ 32 * 2 ^ 32 ≡ wide_number words p
  unfolding wide_number
  wide-list t f = rw (eq-eqb (get_or words (64 + 4 * p) 0) 479 t, e, f)

-- the record
pub all-pairs :
    (words : List ℕ)
    {i j k l m n : Bool}
    → i ≡ alike (place_in words 0) (place_in words 1)
    → j ≡ alike (place_in words 0) (place_in words 2)
    → k ≡ alike (place_in words 1) (place_in words 2)
    → l ≡ alike (place_in words 0) (place_in words 3)
    → m ≡ alike (place_in words 1) (place_in words 3)
    → n ≡ alike (place_in words 2) (place_in words 3)
    → (i || (j || k)) || ((l || m) || n) ≡ any_alike words
unfolding any_alike
all-pairs words i j k l m n = rw (pairs (λ p q. alike (place_in words p) (place_in words q)), i, j, k, l, m, n)

pub all-four :
    (words : List ℕ)
    {e f g h i : Bool}
    → e ≡ spoiled_place (place_in words 0)
    → f ≡ spoiled_place (place_in words 1)
    → g ≡ spoiled_place (place_in words 2)
    → h ≡ spoiled_place (place_in words 3)
    → i ≡ any_alike words
    → (((e || f) || g) || h) || i ≡ spoiled_of (shelf_in words)
unfolding spoiled_of shelf_in any_alike
all-four words e f g h i =
    rw (
      some-four (λ p. spoiled_place (place_at (shelf_in words) p)),
      pairs (λ p q. alike (place_at (shelf_in words) p) (place_at (shelf_in words) q)),
      e,
      f,
      g,
      h,
      i,
      pairs (λ p q. alike (place_in words p) (place_in words q)),
    )
