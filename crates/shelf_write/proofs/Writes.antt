-- What a written record is.
--   place_same      a place is told by its head, its mask and its lengths
--   held-shelf      one section more is the record with one length more
--   freed-shelf     a freed place is the record with that place free
--   head-shelf      a table that begins
use mathlib.Core.Path.{◌≡◌, sym, ◌∙◌}
use mathlib.Core.Bool.{true, false}
use mathlib.Core.List.{List}
use mathlib.Core.Logic.{⊎_elim}
use Prim.Native.Nat.{ℕ, zero, suc, ◌+◌, ◌-◌, ◌*◌, ◌/◌, ◌%◌, ◌^◌, ◌<◌, ◌≤◌}
use native.Mathlib.Nat.{zero-div}
use native.Mathlib.Omega.{arith}
use lib.Bits.{bit_or}
use lib.ListN.{length, get_or, set, length-set, replicate}
use lib.Seq.{ext_get_or, get_or-set_same, get_or-set_other}
use borrow.Author.Tests.{eq-eqb, ne_eqb, le-ltb, lt-ltb}
use Rattle.base.proofs.Cases.{same_or}
use Rattle.shelf.specs.Record.{Place, free_place, empty_table, with_length, fresh, with_place}
use Rattle.key.specs.declared.Key.{Key}
use Rattle.key.proofs.Keys.{Proper}
use Rattle.base.specs.Bits.{bit}
use Rattle.shelf.specs.Layout.{held_length, listed, lengths_in, key_at, table_in, taken_in, place_in, shelf_in}
use Rattle.shelf_write.specs.Writes.{held_in, row_in, rest_in, freed_in, head_in, fresh_number, fresh_words}
use Rattle.shelf_write.specs.Calls.{head_put}
use Rattle.base.proofs.Bits.{bit-set, bit_kept}
use Rattle.shelf.proofs.Lists.{length-listed, get_d-listed, listed_same}

-- the numbers of a place are alike in v and w
pub record Alike (v w : List ℕ) (p : ℕ) : Type 0 where
  pub heads : (j : ℕ) → j < 4 → get_or v (64 + j + 4 * p) 0 ≡ get_or w (64 + j + 4 * p) 0
  pub mask : get_or v (80 + p) 0 ≡ get_or w (80 + p) 0
  pub lengths : (k : ℕ) → k < 16 → get_or v (16 * p + k) 0 ≡ get_or w (16 * p + k) 0
  pub rest : (j : ℕ) → j < 3 → get_or v (84 + j + 3 * p) 0 ≡ get_or w (84 + j + 3 * p) 0

lengths-same : (v w : List ℕ) (p : ℕ) → Alike v w p → lengths_in v p ≡ lengths_in w p
unfolding lengths_in
lengths-same v w p a = listed_same 16 _ _ (λ k h. rw (a.mask, a.lengths k h))

key-alike : (v w : List ℕ) (p : ℕ) → Alike v w p → key_at v p ≡ key_at w p
unfolding key_at
key-alike v w p a =
    rw (a.heads 0 (omega arith), a.heads 1 (omega arith), a.rest 0 (omega arith), a.rest 1 (omega arith), a.rest 2 (omega arith))

pub place_same : (v w : List ℕ) (p : ℕ) → Alike v w p → place_in v p ≡ place_in w p
unfolding place_in table_in
place_same v w p a =
    rw (
      lengths-same v w p a,
      key-alike v w p a,
      a.heads 0 (omega arith),
      a.heads 2 (omega arith),
      a.heads 3 (omega arith),
    )

-- a record in which one place is another
pub shelf-with :
    (v w : List ℕ)
    (p : ℕ)
    → p < 4
    → (x : Place)
    → place_in v p ≡ x
    → ((q : ℕ) → q < 4 → (q ≡ p → ⊥) → place_in v q ≡ place_in w q)
    → shelf_in v ≡ with_place (shelf_in w) p x
unfolding shelf_in
shelf-with v w p h x e o = go p h e o
  where
    go : (p : ℕ) → p < 4 → place_in v p ≡ x → ((q : ℕ) → q < 4 → (q ≡ p → ⊥) → place_in v q ≡ place_in w q) → shelf_in v ≡ with_place (shelf_in w) p x
    go zero h e o = rw (e, o 1 (omega arith) (λ z. omega arith), o 2 (omega arith) (λ z. omega arith), o 3 (omega arith) (λ z. omega arith))
    go (suc zero) h e o = rw (e, o 0 (omega arith) (λ z. omega arith), o 2 (omega arith) (λ z. omega arith), o 3 (omega arith) (λ z. omega arith))
    go (suc (suc zero)) h e o = rw (e, o 0 (omega arith) (λ z. omega arith), o 1 (omega arith) (λ z. omega arith), o 3 (omega arith) (λ z. omega arith))
    go (suc (suc (suc zero))) h e o = rw (e, o 0 (omega arith) (λ z. omega arith), o 1 (omega arith) (λ z. omega arith), o 2 (omega arith) (λ z. omega arith))
    go (suc (suc (suc (suc p)))) h e o = absurd (omega arith)

-- one section more
module _ (words : List ℕ) (fits : length words ≡ 96) (p : ℕ) (hp : p < 4) (n : ℕ) (hn : n < 16) (size : ℕ) (hs : 1 ≤ size) where
  abbrev mask : ℕ
  mask = get_or words (80 + p) 0

  abbrev next : List ℕ
  next = set (set words (16 * p + n) size) (80 + p) (bit_or mask (2 ^ n))

  apart : (i : ℕ) → (i ≡ 16 * p + n → ⊥) → (i ≡ 80 + p → ⊥) → get_or next i 0 ≡ get_or words i 0
  apart i a b =
      get_or-set_other (set words (16 * p + n) size) (80 + p) i (bit_or mask (2 ^ n)) 0 b
      ∙ get_or-set_other words (16 * p + n) i size 0 a

  mask-now : get_or next (80 + p) 0 ≡ bit_or mask (2 ^ n)
  mask-now =
      get_or-set_same (set words (16 * p + n) size) (80 + p) (bit_or mask (2 ^ n)) 0
      (omega (arith, length-set words (16 * p + n) size))

  size-now : get_or next (16 * p + n) 0 ≡ size
  size-now =
      get_or-set_other (set words (16 * p + n) size) (80 + p) (16 * p + n) (bit_or mask (2 ^ n)) 0 (λ z. omega arith)
      ∙ get_or-set_same words (16 * p + n) size 0 (omega arith)

  others : (q : ℕ) → q < 4 → (q ≡ p → ⊥) → place_in next q ≡ place_in words q
  others q h d =
      place_same next words q
      (record {
        heads = λ j l. apart (64 + j + 4 * q) (λ z. omega arith) (λ z. omega arith);
        mask = apart (80 + q) (λ z. omega arith) (λ z. d (omega arith));
        lengths = λ k l. apart (16 * q + k) (λ z. d (omega arith)) (λ z. omega arith);
        rest = λ j l. apart (84 + j + 3 * q) (λ z. omega arith) (λ z. omega arith);
      })

  abbrev old : ℕ → ℕ
  old k = held_length (bit mask k) (get_or words (16 * p + k) 0)

  abbrev new : ℕ → ℕ
  new k = held_length (bit (get_or next (80 + p) 0) k) (get_or next (16 * p + k) 0)

  new-at : new n ≡ size
  new-at = rw (mask-now, bit-set mask n, size-now, ne_eqb size 0 (λ z. omega arith))

  new-other : (k : ℕ) → k < 16 → (k ≡ n → ⊥) → new k ≡ old k
  new-other k h d = rw (mask-now, bit_kept mask n k d, apart (16 * p + k) (λ z. d (omega arith)) (λ z. omega arith))

  lengths-next : lengths_in next p ≡ set (lengths_in words p) n size
  unfolding lengths_in
  lengths-next =
      ext_get_or 0 (listed 16 new) (set (listed 16 old) n size)
      (length-listed 16 new ∙ sym (length-listed 16 old) ∙ sym (length-set (listed 16 old) n size))
      (λ k h.
      let l : k < 16 = omega (arith, length-listed 16 new) in
      ⊎_elim
      (λ (e : k ≡ n).
      rw e
      (get_d-listed 16 new n hn ∙ new-at ∙ sym (get_or-set_same (listed 16 old) n size 0 (omega (arith, length-listed 16 old)))))
      (λ d. get_d-listed 16 new k l ∙ new-other k l d ∙ sym (get_or-set_other (listed 16 old) n k size 0 d ∙ get_d-listed 16 old k l))
      (same_or k n))

  key-next : key_at next p ≡ key_at words p
  unfolding key_at
  key-next =
      rw (
        apart (64 + 4 * p) (λ z. omega arith) (λ z. omega arith),
        apart (65 + 4 * p) (λ z. omega arith) (λ z. omega arith),
        apart (84 + 3 * p) (λ z. omega arith) (λ z. omega arith),
        apart (85 + 3 * p) (λ z. omega arith) (λ z. omega arith),
        apart (86 + 3 * p) (λ z. omega arith) (λ z. omega arith),
      )

  place-next : taken_in words p ≡ true → place_in next p ≡ with_length (place_in words p) n size
  unfolding place_in table_in
  place-next t =
      rw (
        lengths-next,
        key-next,
        apart (64 + 4 * p) (λ z. omega arith) (λ z. omega arith),
        apart (66 + 4 * p) (λ z. omega arith) (λ z. omega arith),
        apart (67 + 4 * p) (λ z. omega arith) (λ z. omega arith),
        t,
      )

  pub held-shelf : taken_in words p ≡ true → shelf_in (held_in words p n size) ≡ with_place (shelf_in words) p (with_length (place_in words p) n size)
  unfolding held_in
  held-shelf t = shelf-with next words p hp (with_length (place_in words p) n size) (place-next t) others

-- a head and a mask
module _ (words : List ℕ) (fits : length words ≡ 96) (p : ℕ) (hp : p < 4) (a b c d m : ℕ) where
  abbrev w₁ : List ℕ
  w₁ = set words (64 + 4 * p) a

  abbrev w₂ : List ℕ
  w₂ = set w₁ (65 + 4 * p) b

  abbrev w₃ : List ℕ
  w₃ = set w₂ (66 + 4 * p) c

  abbrev w₄ : List ℕ
  w₄ = set w₃ (67 + 4 * p) d

  abbrev row : List ℕ
  row = set w₄ (80 + p) m

  row_apart :
      (i : ℕ)
      → ((j : ℕ) → j < 4 → i ≡ 64 + j + 4 * p → ⊥)
      → (i ≡ 80 + p → ⊥)
      → get_or row i 0 ≡ get_or words i 0
  row_apart i x y =
      get_or-set_other w₄ (80 + p) i m 0 y
      ∙ get_or-set_other w₃ (67 + 4 * p) i d 0 (x 3 (omega arith))
      ∙ get_or-set_other w₂ (66 + 4 * p) i c 0 (x 2 (omega arith))
      ∙ get_or-set_other w₁ (65 + 4 * p) i b 0 (x 1 (omega arith))
      ∙ get_or-set_other words (64 + 4 * p) i a 0 (x 0 (omega arith))

  row-mask : get_or row (80 + p) 0 ≡ m
  row-mask = get_or-set_same w₄ (80 + p) m 0 (simp length-set (omega arith))

  row_last : get_or row (67 + 4 * p) 0 ≡ d
  row_last = get_or-set_other w₄ (80 + p) (67 + 4 * p) m 0 (λ z. omega arith) ∙ get_or-set_same w₃ (67 + 4 * p) d 0 (simp length-set (omega arith))

  row-version : get_or row (66 + 4 * p) 0 ≡ c
  row-version =
      get_or-set_other w₄ (80 + p) (66 + 4 * p) m 0 (λ z. omega arith)
      ∙ get_or-set_other w₃ (67 + 4 * p) (66 + 4 * p) d 0 (λ z. omega arith)
      ∙ get_or-set_same w₂ (66 + 4 * p) c 0 (simp length-set (omega arith))

  row-extension : get_or row (65 + 4 * p) 0 ≡ b
  row-extension =
      get_or-set_other w₄ (80 + p) (65 + 4 * p) m 0 (λ z. omega arith)
      ∙ get_or-set_other w₃ (67 + 4 * p) (65 + 4 * p) d 0 (λ z. omega arith)
      ∙ get_or-set_other w₂ (66 + 4 * p) (65 + 4 * p) c 0 (λ z. omega arith)
      ∙ get_or-set_same w₁ (65 + 4 * p) b 0 (simp length-set (omega arith))

  row_first : get_or row (64 + 4 * p) 0 ≡ a
  row_first =
      get_or-set_other w₄ (80 + p) (64 + 4 * p) m 0 (λ z. omega arith)
      ∙ get_or-set_other w₃ (67 + 4 * p) (64 + 4 * p) d 0 (λ z. omega arith)
      ∙ get_or-set_other w₂ (66 + 4 * p) (64 + 4 * p) c 0 (λ z. omega arith)
      ∙ get_or-set_other w₁ (65 + 4 * p) (64 + 4 * p) b 0 (λ z. omega arith)
      ∙ get_or-set_same words (64 + 4 * p) a 0 (omega arith)

  row-others : (q : ℕ) → q < 4 → (q ≡ p → ⊥) → place_in row q ≡ place_in words q
  row-others q h e =
      place_same row words q
      (record {
        heads = λ j l. row_apart (64 + j + 4 * q) (λ i k z. e (omega arith)) (λ z. omega arith);
        mask = row_apart (80 + q) (λ i k z. omega arith) (λ z. e (omega arith));
        lengths = λ k l. row_apart (16 * q + k) (λ i g z. omega arith) (λ z. omega arith);
        rest = λ j l. row_apart (84 + j + 3 * q) (λ i g z. omega arith) (λ z. omega arith);
      })

  pub row-shelf : (x : Place) → place_in row p ≡ x → shelf_in (row_in words p a b c d m) ≡ with_place (shelf_in words) p x
  unfolding row_in
  row-shelf x e = shelf-with row words p hp x e row-others

-- the rest of a key
module _ (words : List ℕ) (fits : length words ≡ 96) (p : ℕ) (hp : p < 4) (key : Key) where
  abbrev r₁ : List ℕ
  r₁ = set words (84 + 3 * p) key.service

  abbrev r₂ : List ℕ
  r₂ = set r₁ (85 + 3 * p) (key.start / 65536)

  abbrev rest : List ℕ
  rest = set r₂ (86 + 3 * p) (key.start % 65536)

  rest-apart : (i : ℕ) → ((j : ℕ) → j < 3 → i ≡ 84 + j + 3 * p → ⊥) → get_or rest i 0 ≡ get_or words i 0
  rest-apart i x =
      get_or-set_other r₂ (86 + 3 * p) i (key.start % 65536) 0 (x 2 (omega arith))
      ∙ get_or-set_other r₁ (85 + 3 * p) i (key.start / 65536) 0 (x 1 (omega arith))
      ∙ get_or-set_other words (84 + 3 * p) i key.service 0 (x 0 (omega arith))

  rest-low : get_or rest (86 + 3 * p) 0 ≡ key.start % 65536
  rest-low = get_or-set_same r₂ (86 + 3 * p) (key.start % 65536) 0 (simp length-set (omega arith))

  rest-high : get_or rest (85 + 3 * p) 0 ≡ key.start / 65536
  rest-high =
      get_or-set_other r₂ (86 + 3 * p) (85 + 3 * p) (key.start % 65536) 0 (λ z. omega arith)
      ∙ get_or-set_same r₁ (85 + 3 * p) (key.start / 65536) 0 (simp length-set (omega arith))

  rest-service : get_or rest (84 + 3 * p) 0 ≡ key.service
  rest-service =
      get_or-set_other r₂ (86 + 3 * p) (84 + 3 * p) (key.start % 65536) 0 (λ z. omega arith)
      ∙ get_or-set_other r₁ (85 + 3 * p) (84 + 3 * p) (key.start / 65536) 0 (λ z. omega arith)
      ∙ get_or-set_same words (84 + 3 * p) key.service 0 (omega arith)

  rest-others : (q : ℕ) → q < 4 → (q ≡ p → ⊥) → place_in rest q ≡ place_in words q
  rest-others q h e =
      place_same rest words q
      (record {
        heads = λ j l. rest-apart (64 + j + 4 * q) (λ i k z. omega arith);
        mask = rest-apart (80 + q) (λ i k z. omega arith);
        lengths = λ k l. rest-apart (16 * q + k) (λ i g z. omega arith);
        rest = λ j l. rest-apart (84 + j + 3 * q) (λ i k z. e (omega arith));
      })

  rest-lengths : lengths_in rest p ≡ lengths_in words p
  unfolding lengths_in
  rest-lengths =
      listed_same 16 _ _ (λ k h. rw (rest-apart (80 + p) (λ i g z. omega arith), rest-apart (16 * p + k) (λ i g z. omega arith)))

module _ (words : List ℕ) (fits : length words ≡ 96) (p : ℕ) (hp : p < 4) where
  pub freed-shelf : shelf_in (freed_in words p) ≡ with_place (shelf_in words) p free_place
  unfolding place_in
  freed-shelf =
      row-shelf words fits p hp p 0 0 0 1 free_place
      (rw (row_first words fits p hp p 0 0 0 1, ne_eqb (p / 256) 1 (λ z. omega arith)))

  module _ (key : Key) (version last : ℕ) (ht : key.table < 256) where
    empty : (v : List ℕ) → get_or v (80 + p) 0 ≡ 0 → lengths_in v p ≡ replicate 16 0
    unfolding lengths_in listed
    empty v e =
        listed_same 16 (λ k. held_length (bit (get_or v (80 + p) 0) k) (get_or v (16 * p + k) 0)) (λ _. 0) (λ k h. rw (e, none k))
      where
        none : (k : ℕ) → bit 0 k ≡ false
        none k = rw (zero-div (2 ^ k))

    abbrev begun : List ℕ
    begun = row words fits p hp (256 + key.table) key.extension version last 0

    begun-fits : length begun ≡ 96
    begun-fits = simp length-set fits

    abbrev after : List ℕ
    after = rest begun begun-fits p hp key

    head_at : (j : ℕ) → j < 4 → get_or after (64 + j + 4 * p) 0 ≡ get_or begun (64 + j + 4 * p) 0
    head_at j l = rest-apart begun begun-fits p hp key (64 + j + 4 * p) (λ i k z. omega arith)

    first-now : get_or after (64 + 4 * p) 0 ≡ 256 + key.table
    first-now = head_at 0 (omega arith) ∙ row_first words fits p hp (256 + key.table) key.extension version last 0

    whole : (n : ℕ) → n / 65536 * 65536 + n % 65536 ≡ n
    whole n = omega arith

    key-now : Proper key → key_at after p ≡ key
    unfolding key_at
    key-now proper =
        rw (
          first-now,
          head_at 1 (omega arith) ∙ row-extension words fits p hp (256 + key.table) key.extension version last 0,
          rest-service begun begun-fits p hp key,
          rest-high begun begun-fits p hp key,
          rest-low begun begun-fits p hp key,
          whole key.start,
          low,
        )
        proper
      where
        low : (256 + key.table) % 256 ≡ key.table
        low = omega arith

    place-now : Proper key → place_in after p ≡ empty_table key version last
    unfolding place_in table_in
    place-now proper =
        rw (
          key-now proper,
          first-now,
          head_at 2 (omega arith) ∙ row-version words fits p hp (256 + key.table) key.extension version last 0,
          head_at 3 (omega arith) ∙ row_last words fits p hp (256 + key.table) key.extension version last 0,
          rest-lengths begun begun-fits p hp key,
          empty begun (row-mask words fits p hp (256 + key.table) key.extension version last 0),
          eq-eqb ((256 + key.table) / 256) 1 (omega arith),
        )

    pub head-shelf : Proper key → shelf_in (head_in words p key version last) ≡ with_place (shelf_in words) p (empty_table key version last)
    unfolding row_in rest_in
    head-shelf proper =
        shelf-with after words p hp (empty_table key version last) (place-now proper)
        (λ q h e.
        rest-others begun begun-fits p hp key q h e
        ∙ row-others words fits p hp (256 + key.table) key.extension version last 0 q h e)

    pub head-taken : taken_in (head_in words p key version last) p ≡ true
    unfolding row_in rest_in
    head-taken = rw first-now (eq-eqb ((256 + key.table) / 256) 1 (omega arith))

-- the numbers stay as many
pub held-length : (words : List ℕ) (p n size : ℕ) → length (held_in words p n size) ≡ length words
unfolding held_in
held-length words p n size = simp length-set

pub row-length : (words : List ℕ) (p a b c d m : ℕ) → length (row_in words p a b c d m) ≡ length words
unfolding row_in
row-length words p a b c d m = simp length-set

pub rest-length : (words : List ℕ) (p : ℕ) (key : Key) → length (rest_in words p key) ≡ length words
unfolding rest_in
rest-length words p key = simp length-set

pub fresh-length : length fresh_words ≡ 96
unfolding fresh_words
fresh-length = length-listed 96 fresh_number

pub fresh-shelf : shelf_in fresh_words ≡ fresh
unfolding shelf_in place_in fresh fresh_words
fresh-shelf = rw (free 0 (omega arith) (omega arith), free 1 (omega arith) (omega arith), free 2 (omega arith) (omega arith), free 3 (omega arith) (omega arith))
  where
    free : (p : ℕ) → p < 4 → 64 + 4 * p < 96 → taken_in fresh_words p ≡ false
    free p h l = rw (get_d-listed 96 fresh_number (64 + 4 * p) l, le-ltb (64 + 4 * p) 64 (omega arith), lt-ltb (64 + 4 * p) 80 (omega arith), eq-eqb ((64 + 4 * p) % 4) 0 (omega arith)) (ne_eqb ((64 + 4 * p - 64) / 4 / 256) 1 (λ z. omega arith))

pub head-put-row :
    {out row : List ℕ}
    {a b c : ℕ}
    (words : List ℕ)
    (p : ℕ)
    (key : Key)
    (version last : ℕ)
    → length words ≡ 96
    → p < 4
    → a ≡ key.table
    → b ≡ version
    → c ≡ last
    → row ≡ row_in words p (256 + a) key.extension b c 0
    → out ≡ rest_in row p key
    → out ≡ head_put words p key version last
unfolding head_put
head-put-row words p key version last n h i j k e f = rw (eq-eqb (length words) 96 n, lt-ltb p 4 h) (rw (e, i, j, k) at f)

pub rest-set :
    {a b : ℕ}
    (words : List ℕ)
    (p : ℕ)
    (key : Key)
    → a ≡ key.start / 65536
    → b ≡ key.start % 65536
    → set (set (set words (84 + 3 * p) key.service) (85 + 3 * p) a) (86 + 3 * p) b ≡ rest_in words p key
unfolding rest_in
rest-set words p key e f = rw (e, f)
