-- What the numbers say of the record that they are.
--   at_count, spoiled-count       96 numbers are the record that is read in them; any other count is spoiled
--   place_at_lem, taken_at            a place of the record is a place of the numbers
--   length-in, length-at, held_at the lengths of a taken place
--   key-told, free-told           what a search looks at
--   among-place, among-free, among-key, among-version, among-last, among-length   what is found in 96 numbers
--   at-id, at-further             the table id and the extension of the key in a place
--   key-summed, rest-summed, key-read   numbers of a place put together
--   found-key                     the key in a place
--   number-other, other-same, service-other, start-decides     whether a place has the table of a key
use mathlib.Core.Path.{◌≡◌, refl, sym, ap, ◌∙◌}
use mathlib.Core.Bool.{Bool, true, false, not, ◌&&◌}
use mathlib.Core.List.{List}
use Prim.Native.Nat.{ℕ, zero, suc, ◌+◌, ◌*◌, ◌/◌, ◌%◌, ◌<◌}
use native.Mathlib.Omega.{arith}
use lib.Dec.{eqb}
use lib.ListN.{length, get_or}
use borrow.Author.Tests.{eq-eqb, ne_eqb, eqb-true, eqb-false, lt-ltb}
use Rattle.base.specs.Below.{some}
use Rattle.base.proofs.Cases.{by, unlike, and_left, and_right}
use Rattle.shelf.specs.Record.{length_at, holds, spoiled_place, spoiled_of, place_at, fresh, has_key, place_of, free_of}
use Rattle.key.specs.declared.Key.{Key}
use Rattle.key.specs.Key.{nrt_it, key_from}
use Rattle.key.proofs.Keys.{Proper, begins_with, ends_with}
use Rattle.base.specs.Bits.{bit}
use Rattle.shelf.specs.Layout.{key_number, rest_number, key_at, number_for, length_in, lengths_in, table_in, taken_in, place_in, shelf_in, shelf_at, no_record}
use Rattle.shelf.specs.Calls.{has_place, has_section, number_among, key_among, rest_among, key_found, place_among, free_among, version_among, last_among, mask_among, length_among}
use Rattle.shelf.proofs.Lists.{get_d-listed}

-- 96 numbers, or none
pub at_count : (words : List ℕ) → length words ≡ 96 → shelf_at words ≡ shelf_in words
unfolding shelf_at
at_count words n = rw (eq-eqb (length words) 96 n)

pub no_record_lem : (words : List ℕ) → (length words ≡ 96 → ⊥) → spoiled_of (shelf_at words) ≡ true
unfolding shelf_at spoiled_of spoiled_place some no_record fresh
no_record_lem words d = rw (ne_eqb (length words) 96 d)

pub spoiled-count : (words : List ℕ) → spoiled_of (shelf_at words) ≡ false → length words ≡ 96
spoiled-count words e =
    by (eqb (length words) 96)
    (λ t. eqb-true _ _ t)
    (λ f. absurd (unlike (sym (no_record_lem words (eqb-false _ _ f)) ∙ e)))

-- a place of the record is a place of the numbers
pub place_at_lem : (words : List ℕ) (p : ℕ) → p < 4 → place_at (shelf_in words) p ≡ place_in words p
unfolding shelf_in
place_at_lem words zero h = refl
place_at_lem words (suc zero) h = refl
place_at_lem words (suc (suc zero)) h = refl
place_at_lem words (suc (suc (suc zero))) h = refl
place_at_lem words (suc (suc (suc (suc p)))) h = absurd (omega arith)

pub taken_in_lem : (words : List ℕ) (p : ℕ) → (place_in words p).taken ≡ taken_in words p
unfolding place_in table_in
taken_in_lem words p = by (taken_in words p) (λ t. rw t) (λ t. rw t)

pub taken_at : (words : List ℕ) (p : ℕ) → p < 4 → (place_at (shelf_in words) p).taken ≡ taken_in words p
taken_at words p h = rw (place_at_lem words p h) (taken_in_lem words p)

pub table_at : (words : List ℕ) (p : ℕ) → p < 4 → taken_in words p ≡ true → place_at (shelf_in words) p ≡ table_in words p
unfolding place_in
table_at words p h t = place_at_lem words p h ∙ rw t

-- the lengths of a table
pub length-in : (words : List ℕ) (p n : ℕ) → n < 16 → length_at (table_in words p) n ≡ length_in words p n
unfolding table_in lengths_in
length-in words p n h = get_d-listed 16 (length_in words p) n h

pub length-at : (words : List ℕ) (p n : ℕ) → p < 4 → n < 16 → taken_in words p ≡ true → length_at (place_at (shelf_in words) p) n ≡ length_in words p n
length-at words p n h l t = rw (table_at words p h t) (length-in words p n l)

-- a section is held where its bit is 1
pub bit-held : (words : List ℕ) (p n : ℕ) → not (eqb (length_in words p n) 0) ≡ bit (get_or words (80 + p) 0) n
bit-held words p n =
    by (bit (get_or words (80 + p) 0) n)
    (λ b. by (eqb (get_or words (16 * p + n) 0) 0) (λ e. rw (b, e)) (λ e. rw (b, e, e)))
    (λ b. rw b)

pub held_at : (words : List ℕ) (p n : ℕ) → n < 16 → holds (table_in words p) n ≡ bit (get_or words (80 + p) 0) n
held_at words p n h = rw (length-in words p n h) (bit-held words p n)

pub no_both : (a b : Bool) → (a ≡ true → b ≡ true → ⊥) → a && b ≡ false
no_both true true h = absurd (h refl refl)
no_both true false h = refl
no_both false b h = refl

-- the two numbers of a head as one are a key's where the place is taken by that table
two-parts : (a b t e : ℕ) → a < 65536 → t < 256 → eqb (a + 65536 * b) (256 + t + 65536 * e) ≡ eqb (a / 256) 1 && (eqb (a % 256) t && eqb b e)
two-parts a b t e h l =
    by (eqb (a + 65536 * b) (256 + t + 65536 * e))
    (λ q.
    let q' : a + 65536 * b ≡ 256 + t + 65536 * e = eqb-true _ _ q in
    rw (q, eq-eqb (a / 256) 1 (omega arith), eq-eqb (a % 256) t (omega arith), eq-eqb b e (omega arith)))
    (λ q.
    rw q
    (sym
    (no_both (eqb (a / 256) 1) (eqb (a % 256) t && eqb b e)
    (λ i k.
    eqb-false (a + 65536 * b) (256 + t + 65536 * e) q
    (omega (arith, eqb-true (a / 256) 1 i, eqb-true (a % 256) t (and_left (eqb (a % 256) t) (eqb b e) k), eqb-true b e (and_right (eqb (a % 256) t) (eqb b e) k)))))))

-- two tests of three of which one fails
apart-still : (a b c : Bool) → a && b ≡ false → a && (b && c) ≡ false
apart-still true b c e = rw e
apart-still false b c e = refl

-- a start is another exactly when it is another with its halves exchanged
turned : (h l s : ℕ) → h < 65536 → l < 65536 → s < 4294967296 → eqb (l * 65536 + h) (s % 65536 * 65536 + s / 65536) ≡ eqb (h * 65536 + l) s
turned h l s a b c =
    by (eqb (h * 65536 + l) s)
    (λ t. let e : h * 65536 + l ≡ s = eqb-true _ _ t in rw t (eq-eqb (l * 65536 + h) (s % 65536 * 65536 + s / 65536) (omega (arith, e))))
    (λ f. rw f (ne_eqb (l * 65536 + h) (s % 65536 * 65536 + s / 65536) (λ e. eqb-false (h * 65536 + l) s f (omega (arith, e)))))

-- what a search is told of place p
pub key-told :
    (words : List ℕ)
    (p : ℕ)
    (key : Key)
    {r t : Bool}
    → p < 4
    → r ≡ has_key (place_in words p) key
    → r ≡ t
    → has_key (place_at (shelf_in words) p) key ≡ t
key-told words p key h e f = rw (place_at_lem words p h) (sym e ∙ f)

pub free-told : (words : List ℕ) (p : ℕ) → p < 4 → (get_or words (64 + 4 * p) 0 / 256 ≡ 1 → ⊥) → not (place_at (shelf_in words) p).taken ≡ true
free-told words p h d = rw (taken_at words p h, ne_eqb (get_or words (64 + 4 * p) 0 / 256) 1 d)

pub taken-told : (words : List ℕ) (p : ℕ) → p < 4 → get_or words (64 + 4 * p) 0 / 256 ≡ 1 → not (place_at (shelf_in words) p).taken ≡ false
taken-told words p h e = rw (taken_at words p h, eq-eqb (get_or words (64 + 4 * p) 0 / 256) 1 e)

-- what is found in 96 numbers, and in any others
pub among-place : (words : List ℕ) (key : Key) → length words ≡ 96 → place_among words key ≡ place_of (shelf_in words) key
unfolding place_among
among-place words key n = rw (eq-eqb (length words) 96 n)

pub place_none : (words : List ℕ) (key : Key) → (length words ≡ 96 → ⊥) → place_among words key ≡ 4
unfolding place_among
place_none words key d = rw (ne_eqb (length words) 96 d)

pub among-free : (words : List ℕ) → length words ≡ 96 → free_among words ≡ free_of (shelf_in words)
unfolding free_among
among-free words n = rw (eq-eqb (length words) 96 n)

pub free-none : (words : List ℕ) → (length words ≡ 96 → ⊥) → free_among words ≡ 4
unfolding free_among
free-none words d = rw (ne_eqb (length words) 96 d)

-- the table id and the extension of the key in a place
module _ (words : List ℕ) (p : ℕ) where
  pub at-id : (key_at words p).table ≡ get_or words (64 + 4 * p) 0 % 256
  unfolding key_at
  at-id = (begins_with _ _ _ _).id

  pub at-further : (key_at words p).extension ≡ get_or words (65 + 4 * p) 0
  unfolding key_at
  at-further = (begins_with _ _ _ _).further

-- numbers of place p put together, as they are found in any numbers
module _ (words : List ℕ) (p : ℕ) where
  pub key-summed : {a b : ℕ} → a ≡ number_among words 64 4 p → b ≡ number_among words 65 4 p → a + 65536 * b ≡ key_among words p
  unfolding key_among number_among
  key-summed e f = rw (e, f) (by (has_place (length words) p) (λ t. rw t) (λ t. rw t))

  pub rest-summed :
      {a h l start : ℕ}
      → a ≡ number_among words 84 3 p
      → h ≡ number_among words 85 3 p
      → l ≡ number_among words 86 3 p
      → start ≡ h * 65536 + l
      → a + 65536 * start ≡ rest_among words p
  unfolding rest_among number_among
  rest-summed e f g s = rw (e, s, f, g) (by (has_place (length words) p) (λ t. rw t) (λ t. rw t))

  pub key-read :
      {t e a h l start : ℕ}
      {k : Key}
      → t ≡ number_among words 64 4 p
      → e ≡ number_among words 65 4 p
      → a ≡ number_among words 84 3 p
      → h ≡ number_among words 85 3 p
      → l ≡ number_among words 86 3 p
      → start ≡ h * 65536 + l
      → k ≡ key_from (t % 256) e a start
      → k ≡ key_found words p
  unfolding key_found key_at number_among key_from
  key-read i j m f g s k = k ∙ rw (i, j, m, s, f, g) (by (has_place (length words) p) (λ t. rw t) (λ t. rw t))

module _ (words : List ℕ) (p : ℕ) (fits : length words ≡ 96) (hp : p < 4) where
  pub has-place : has_place (length words) p ≡ true
  has-place = rw (eq-eqb (length words) 96 fits, lt-ltb p 4 hp)

  pub has-section : (n : ℕ) → n < 16 → has_section (length words) p n ≡ true
  has-section n h = rw (has-place, lt-ltb n 16 h)

  pub among-version : version_among words p ≡ get_or words (66 + 4 * p) 0
  unfolding version_among number_among
  among-version = rw has-place

  pub among-last : last_among words p ≡ get_or words (67 + 4 * p) 0
  unfolding last_among number_among
  among-last = rw has-place

  pub among-mask : mask_among words p ≡ get_or words (80 + p) 0
  unfolding mask_among number_among
  among-mask = let e : 1 * p ≡ p = omega arith in rw (has-place, e)

  pub among-length : (n : ℕ) → n < 16 → length_among words p n ≡ length_in words p n
  unfolding length_among
  among-length n h = rw (has-section n h)

  pub among-key : key_among words p ≡ key_number words p
  unfolding key_among
  among-key = rw has-place

  -- the number of a head, against another
  module _ {m n : ℕ} (i : m ≡ key_among words p) where
    pub number-told : m ≡ n → eqb (key_number words p) n ≡ true
    number-told e = eq-eqb _ _ (sym (i ∙ among-key) ∙ e)

    pub number-not : (m ≡ n → ⊥) → eqb (key_number words p) n ≡ false
    number-not d = ne_eqb _ _ (λ e. d (i ∙ among-key ∙ e))

  pub among-rest : rest_among words p ≡ rest_number words p
  unfolding rest_among
  among-rest = rw has-place

  pub found-key : key_found words p ≡ key_at words p
  unfolding key_found
  found-key = rw has-place

  -- against a key, where the numbers differ and where they are the same
  module _ {m n : ℕ} (key : Key) (t : key.table < 256) (h : get_or words (64 + 4 * p) 0 < 65536) (i : m ≡ key_among words p) (k : n ≡ number_for key) where
    told-parts :
        eqb m n
        ≡ taken_in words p && (eqb (get_or words (64 + 4 * p) 0 % 256) key.table && eqb (get_or words (65 + 4 * p) 0) key.extension)
    told-parts =
        rw (i, among-key, k) (two-parts (get_or words (64 + 4 * p) 0) (get_or words (65 + 4 * p) 0) key.table key.extension h t)

    pub number-other : (m ≡ n → ⊥) → false ≡ has_key (place_in words p) key
    unfolding has_key place_in table_in
    number-other d =
        let one = eqb (get_or words (64 + 4 * p) 0 % 256) key.table in
        let two = eqb (get_or words (65 + 4 * p) 0) key.extension in
        let three = eqb (key_at words p).service key.service && eqb (key_at words p).start key.start in
        let e : taken_in words p && (one && two) ≡ false = sym told-parts ∙ ne_eqb m n d in
        by (taken_in words p)
        (λ t. let f : one && two ≡ false = rw t at e in rw (t, at-id words p, at-further words p) (sym (apart-still one two three f)))
        (λ t. rw t)

    -- of the same numbers the table is taken, and the rest of the keys decides
    module _ (e : m ≡ n) where
      parts-so : taken_in words p && (eqb (get_or words (64 + 4 * p) 0 % 256) key.table && eqb (get_or words (65 + 4 * p) 0) key.extension) ≡ true
      parts-so = sym told-parts ∙ eq-eqb m n e

      taken-so : taken_in words p ≡ true
      taken-so = and_left (taken_in words p) _ parts-so

      id-so : get_or words (64 + 4 * p) 0 % 256 ≡ key.table
      id-so = eqb-true _ _ (and_left (eqb (get_or words (64 + 4 * p) 0 % 256) key.table) _ (and_right (taken_in words p) _ parts-so))

      further-so : get_or words (65 + 4 * p) 0 ≡ key.extension
      further-so = eqb-true _ _ (and_right (eqb (get_or words (64 + 4 * p) 0 % 256) key.table) _ (and_right (taken_in words p) _ parts-so))

      -- as the key in the place has it
      rest-decides : has_key (place_in words p) key ≡ eqb (key_at words p).service key.service && eqb (key_at words p).start key.start
      unfolding has_key place_in table_in
      rest-decides =
          rw (taken-so, eq-eqb (key_at words p).table key.table (at-id words p ∙ id-so), eq-eqb (key_at words p).extension key.extension (at-further words p ∙ further-so))

      -- a table of another id, and a key that four numbers say
      pub other-same : ¬ (key.table ≡ nrt_it) → Proper key → has_key (place_in words p) key ≡ true
      unfolding key_at
      other-same d q =
          let here = (ends_with (get_or words (64 + 4 * p) 0 % 256) (get_or words (65 + 4 * p) 0) (get_or words (84 + 3 * p) 0) (get_or words (85 + 3 * p) 0 * 65536 + get_or words (86 + 3 * p) 0)).1 (λ t. d (sym id-so ∙ t)) in
          let there = (ends_with key.table key.extension key.service key.start).1 d in
          let service : key.service ≡ 0 = ap (λ k. k.service) (sym q) ∙ there.0 in
          let start : key.start ≡ 0 = ap (λ k. k.start) (sym q) ∙ there.1 in
          rw (rest-decides, here.0, here.1, service, start)

      -- a list
      pub list-decides :
          key.table ≡ nrt_it
          → has_key (place_in words p) key
          ≡ eqb (get_or words (84 + 3 * p) 0) key.service && eqb (get_or words (85 + 3 * p) 0 * 65536 + get_or words (86 + 3 * p) 0) key.start
      unfolding key_at
      list-decides t =
          let here = (ends_with (get_or words (64 + 4 * p) 0 % 256) (get_or words (65 + 4 * p) 0) (get_or words (84 + 3 * p) 0) (get_or words (85 + 3 * p) 0 * 65536 + get_or words (86 + 3 * p) 0)).0 (id-so ∙ t) in
          rw (rest-decides, here.0, here.1)

      module _ (list : key.table ≡ nrt_it) where
        pub service-other : (get_or words (84 + 3 * p) 0 ≡ key.service → ⊥) → false ≡ has_key (place_in words p) key
        service-other d = rw (list-decides list, ne_eqb (get_or words (84 + 3 * p) 0) key.service d)

        pub start-decides :
            {x y : ℕ}
            → get_or words (84 + 3 * p) 0 ≡ key.service
            → get_or words (85 + 3 * p) 0 < 65536
            → get_or words (86 + 3 * p) 0 < 65536
            → key.start < 4294967296
            → x ≡ get_or words (86 + 3 * p) 0 * 65536 + get_or words (85 + 3 * p) 0
            → y ≡ key.start % 65536 * 65536 + key.start / 65536
            → eqb x y ≡ has_key (place_in words p) key
        start-decides q a b s f g =
            rw (list-decides list, eq-eqb (get_or words (84 + 3 * p) 0) key.service q, f, g)
            (turned (get_or words (85 + 3 * p) 0) (get_or words (86 + 3 * p) 0) key.start a b s)

-- what was read in the numbers, against what a section says
module _ (words : List ℕ) (p : ℕ) (fits : length words ≡ 96) (hp : p < 4) (t : taken_in words p ≡ true) where
  version-is : (place_at (shelf_in words) p).version ≡ get_or words (66 + 4 * p) 0
  unfolding table_in
  version-is = ap (λ x. x.version) (table_at words p hp t)

  last-is : (place_at (shelf_in words) p).last ≡ get_or words (67 + 4 * p) 0
  unfolding table_in
  last-is = ap (λ x. x.last) (table_at words p hp t)

  module _ {a b v : ℕ} (e : b ≡ v) where
    pub version-same : a ≡ version_among words p → a ≡ b → (place_at (shelf_in words) p).version ≡ v
    version-same d q = version-is ∙ sym (d ∙ among-version words p fits hp) ∙ q ∙ e

    pub version-other : a ≡ version_among words p → (a ≡ b → ⊥) → (place_at (shelf_in words) p).version ≡ v → ⊥
    version-other d q z = q (d ∙ among-version words p fits hp ∙ sym version-is ∙ z ∙ sym e)

    pub last-same : a ≡ last_among words p → a ≡ b → (place_at (shelf_in words) p).last ≡ v
    last-same d q = last-is ∙ sym (d ∙ among-last words p fits hp) ∙ q ∙ e

    pub last-other : a ≡ last_among words p → (a ≡ b → ⊥) → (place_at (shelf_in words) p).last ≡ v → ⊥
    last-other d q z = q (d ∙ among-last words p fits hp ∙ sym last-is ∙ z ∙ sym e)

  pub length-same : {c n : ℕ} (m : ℕ) → m < 16 → n ≡ m → c ≡ length_among words p n → c ≡ length_at (place_at (shelf_in words) p) m
  length-same m h e q = q ∙ ap (length_among words p) e ∙ among-length words p fits hp m h ∙ sym (length-at words p m hp h t)
