-- The table in a place.
--   taken_refused, taken-14, taken-place          the answer of `taken_of`, by what was tested
--   taken-says                                    what is so of a place that is taken (`TakenIn`)
--   head-place, head-free                         whether a place is taken is told by the first number of its head
--   table-read                                    the table, in the numbers of a record that has it
--   lent-refused, lent-table                      both ways out of the question over lent numbers
--   table-untouched, table-accepted               a refused question leaves the buffer as it was; it is accepted exactly when
--   same-told                                     records that are not spoiled are equal exactly when they tell the same table in each place
--   whole-told                                    a table is told in twenty-three numbers
use mathlib.Core.Path.{◌≡◌, refl, sym, ap, ◌∙◌}
use mathlib.Core.Bool.{true, false, not, ◌&&◌}
use mathlib.Core.List.{List, [], ◌∷◌}
use mathlib.Core.Logic.{◌↔◌, ⊎_elim}
use Prim.Native.Nat.{ℕ, ◌+◌, ◌*◌, ◌/◌, ◌%◌, ◌<◌, ◌≤◌}
use native.Mathlib.Omega.{arith}
use lib.Dec.{ltb}
use lib.ListN.{length, get_or, get_or-eq_default}
use borrow.Author.Tests.{eq-eqb, ne_eqb, lt-ltb, le-ltb, ltb-true, ltb-false}
use Rattle.base.specs.Choice.{◌if◌}
use Rattle.std.specs.Prelude.{Result, Ok, Err}
use Rattle.refusal.specs.Refusal.{number}
use Rattle.refusal.proofs.Numbers.{in_byte}
use Rattle.refusal.specs.declared.Refusal.{Refusal}
use Rattle.refusal.specs.declared.Refusal.TheVariants.{TableNotHeld, StoreSize, ShelfSpoiled}
use Rattle.base.proofs.Cases.{by, same_or}
use Rattle.berth.specs.Berth.{places, store_size}
use Rattle.answers.specs.Answers.{told, out, puts}
use Rattle.answers.proofs.Puts.{puts-refused, puts-untouched, puts-accepted}
use Rattle.tables.specs.declared.Table.{Table}
use Rattle.tables.specs.Numbers.{table_numbers, table_put}
use Rattle.key.proofs.Keys.{one_is}
use Rattle.shelf.specs.Record.{Shelf, Place, place_at, spoiled_of, Same}
use Rattle.shelf.specs.Layout.{shelf_at, shelf_in, place_in, table_in, lengths_in, length_in, taken_in}
use Rattle.shelf.specs.Calls.{key_among, length_among}
use Rattle.shelf.proofs.Lists.{length-listed, listed_same}
use Rattle.shelf.proofs.Numbers.{at_count, spoiled-count, place_at_lem, taken_at, table_at, among-key, found-key, among-version, among-last, among-length}
use Rattle.shelf_ask.specs.Ask.{unlent_of}
use Rattle.shelf_ask.specs.Tables.{place_table, untold, taken_of, table_told, SameTold}
use Rattle.shelf_ask.specs.Calls.{table_among}
use Rattle.shelf_ask.specs.Answer.{table_lent}
use Rattle.shelf_ask.proofs.Held.{unlent-refused, never, still, past}

module _ (shelf : Shelf) (size p : ℕ) where
  pub taken_refused : {r : Refusal} → Err r ≡ unlent_of shelf size → Err r ≡ taken_of shelf size p
  unfolding taken_of
  taken_refused e = sym (unlent-refused shelf size Err (TableNotHeld if not (ltb p places && (place_at shelf p).taken) ∷ []) (Ok p) e)

  taken-17 : (size ≡ store_size → ⊥) → taken_of shelf size p ≡ Err StoreSize
  unfolding taken_of
  taken-17 h = rw (ne_eqb size store_size h)

  module _ (w : size ≡ store_size) where
    taken-18 : spoiled_of shelf ≡ true → taken_of shelf size p ≡ Err ShelfSpoiled
    unfolding taken_of
    taken-18 h = rw (eq-eqb size store_size w, h)

    module _ (s : spoiled_of shelf ≡ false) where
      pub taken_none : places ≤ p → taken_of shelf size p ≡ Err TableNotHeld
      unfolding taken_of
      taken_none l = rw (eq-eqb size store_size w, s, le-ltb p places l)

      pub taken-14 : (place_at shelf p).taken ≡ false → taken_of shelf size p ≡ Err TableNotHeld
      unfolding taken_of
      taken-14 h =
          by (ltb p places)
          (λ t. rw (eq-eqb size store_size w, s, t, h))
          (λ f. taken_none (ltb-false _ _ f))

      pub taken-place : p < places → (place_at shelf p).taken ≡ true → taken_of shelf size p ≡ Ok p
      unfolding taken_of
      taken-place l h = rw (eq-eqb size store_size w, s, lt-ltb p places l, h)

-- a table is in place q, which is the one asked for
pub record TakenIn (shelf : Shelf) (size p q : ℕ) : Type 0 where
  pub whole : size ≡ store_size
  pub sound : spoiled_of shelf ≡ false
  pub place : p < places
  pub taken : (place_at shelf p).taken ≡ true
  pub same : p ≡ q

module _ (shelf : Shelf) (size p : ℕ) where
  pub taken-says : (q : ℕ) → taken_of shelf size p ≡ Ok q → TakenIn shelf size p q
  taken-says q e =
      ⊎_elim
      (λ w.
      by (spoiled_of shelf)
      (λ t. absurd (never (sym (taken-18 shelf size p w t) ∙ e)))
      (λ s.
      by (ltb p places)
      (λ i.
      by (place_at shelf p).taken
      (λ t.
      let r : ◌≡◌ {A = Result ℕ Refusal} (Ok p) (Ok q) = sym (taken-place shelf size p w s (ltb-true _ _ i) t) ∙ e in
      record { whole = w; sound = s; place = ltb-true _ _ i; taken = t; same = (cc) })
      (λ f. absurd (never (sym (taken-14 shelf size p w s f) ∙ e))))
      (λ i. absurd (never (sym (taken_none shelf size p w s (ltb-false _ _ i)) ∙ e)))))
      (λ w. absurd (never (sym (taken-17 shelf size p w) ∙ e)))
      (same_or size store_size)

  pub told-refused : (r : Refusal) → taken_of shelf size p ≡ Err r → table_told shelf size p ≡ told (number r) []
  unfolding taken_of table_told
  told-refused r e = still (λ r. told (number r) []) [] (told 0 (table_numbers (place_table (place_at shelf p)))) (untold shelf size p) p r e

  pub told-table : (q : ℕ) → taken_of shelf size p ≡ Ok q → table_told shelf size p ≡ told 0 (table_numbers (place_table (place_at shelf p)))
  unfolding taken_of table_told
  told-table q e = past (λ r. told (number r) []) [] (told 0 (table_numbers (place_table (place_at shelf p)))) (untold shelf size p) q p e

apart : true ≡ false → ⊥
apart e = let z : ◌≡◌ {A = ℕ} 0 1 = cc in omega arith

-- a place by its parts
same_place : (x y : Place) → x.taken ≡ y.taken → x.key ≡ y.key → x.version ≡ y.version → x.last ≡ y.last → x.lengths ≡ y.lengths → x ≡ y
same_place x y t k c d l = rw (t, k, c, d, l)

-- a number of 32 bits by its halves
halves : (a b : ℕ) → a / 65536 ≡ b / 65536 → a % 65536 ≡ b % 65536 → a ≡ b
halves a b e f = omega (arith, e, f)

-- numbers of 16 bits, of a record that is not spoiled
module _ (words : List ℕ) (p : ℕ) (short : get_or words (64 + 4 * p) 0 < 65536) (s : spoiled_of (shelf_at words) ≡ false) where
  counted : length words ≡ 96
  counted = spoiled-count words s

  -- there are four places
  none-past : 4 ≤ p → (place_at (shelf_at words) p).taken ≡ false
  unfolding shelf_in
  none-past h = rw (at_count words counted) (ap (λ (x : Place). x.taken) (get_or-eq_default (shelf_in words).places _ {n = p} (omega arith)))

  key-past : 4 ≤ p → key_among words p ≡ 0
  unfolding key_among
  key-past h = rw (eq-eqb (length words) 96 counted, le-ltb p 4 h)

  -- the head's first number, out of the two
  head_of : (a b : ℕ) → a < 65536 → (a + 65536 * b) / 256 % 256 ≡ a / 256
  head_of a b h = omega arith

  head-is : {n : ℕ} → p < 4 → n ≡ key_among words p → n / 256 % 256 ≡ get_or words (64 + 4 * p) 0 / 256
  head-is h e = rw (e, among-key words p counted h) (head_of (get_or words (64 + 4 * p) 0) (get_or words (65 + 4 * p) 0) short)

  taken-by : p < 4 → (place_at (shelf_at words) p).taken ≡ taken_in words p
  taken-by h = rw (at_count words counted) (taken_at words p h)

  head-taken : {n : ℕ} → n ≡ key_among words p → n / 256 % 256 ≡ 1 → (place_at (shelf_at words) p).taken ≡ true
  head-taken {n} e h =
      by (ltb p 4)
      (λ t. let l : p < 4 = ltb-true _ _ t in taken-by l ∙ eq-eqb _ 1 (sym (head-is l e) ∙ h))
      (λ f. let z : n ≡ 0 = e ∙ key-past (ltb-false _ _ f) in absurd (omega arith))

  pub head-free : {n : ℕ} → n ≡ key_among words p → (n / 256 % 256 ≡ 1 → ⊥) → (place_at (shelf_at words) p).taken ≡ false
  head-free {n} e h =
      by (ltb p 4)
      (λ t. let l : p < 4 = ltb-true _ _ t in taken-by l ∙ ne_eqb _ 1 (λ q. h (head-is l e ∙ q)))
      (λ f. none-past (ltb-false _ _ f))

  below : (place_at (shelf_at words) p).taken ≡ true → p < 4
  below t =
      by (ltb p 4)
      (λ l. ltb-true _ _ l)
      (λ f. absurd (apart (sym t ∙ none-past (ltb-false _ _ f))))

  pub head-place : (size : ℕ) → size ≡ store_size → {n : ℕ} → n ≡ key_among words p → n / 256 % 256 ≡ 1 → taken_of (shelf_at words) size p ≡ Ok p
  head-place size w e h = let t = head-taken e h in taken-place (shelf_at words) size p w s (below t) t

  same-table : p < 4 → table_among words p ≡ place_table (table_in words p)
  unfolding table_in lengths_in
  same-table h =
      rw (
        found-key words p counted h,
        among-version words p counted h,
        among-last words p counted h,
        listed_same 16 (length_among words p) (length_in words p) (λ n l. among-length words p counted h n l),
      )

  pub table-read : (place_at (shelf_at words) p).taken ≡ true → table_among words p ≡ place_table (place_at (shelf_at words) p)
  table-read t =
      let h = below t in
      let e : place_at (shelf_at words) p ≡ table_in words p = rw (at_count words counted) (table_at words p h (sym (taken-by h) ∙ t)) in
      same-table h ∙ ap place_table (sym e)

module _ (words store : List ℕ) (p : ℕ) (fields : List ℕ) where
  pub lent-refused : (r : Refusal) → taken_of (shelf_at words) (length store) p ≡ Err r → out (number r) fields ≡ table_lent words store p fields
  unfolding table_lent
  lent-refused r e =
      puts-refused (number r) fields
      ∙ ap (λ t. puts t fields) (sym (told-refused (shelf_at words) (length store) p r e))

  lent-put :
      (q : ℕ)
      → taken_of (shelf_at words) (length store) p ≡ Ok q
      → {code : ℕ}
      {left : List ℕ}
      → out code left ≡ table_put (place_table (place_at (shelf_at words) p)) fields
      → out code left ≡ table_lent words store p fields
  unfolding table_lent table_put
  lent-put q e g = g ∙ ap (λ t. puts t fields) (sym (told-table (shelf_at words) (length store) p q e))

  pub lent-table :
      (q : ℕ)
      → taken_of (shelf_at words) (length store) p ≡ Ok q
      → get_or words (64 + 4 * p) 0 < 65536
      → {t : Table}
      → t ≡ table_among words q
      → {code : ℕ}
      {left : List ℕ}
      → out code left ≡ table_put t fields
      → out code left ≡ table_lent words store p fields
  lent-table q e short g h =
      let i = taken-says (shelf_at words) (length store) p q e in
      lent-put q e
      (h
      ∙ ap (λ t. table_put t fields) (g ∙ ap (table_among words) (sym i.same) ∙ table-read words p short i.sound i.taken))

  -- a refused question leaves the buffer as it was
  pub table-untouched : ¬ ((table_lent words store p fields).code ≡ 0) → (table_lent words store p fields).out ≡ fields
  unfolding table_lent
  table-untouched = puts-untouched (table_told (shelf_at words) (length store) p) fields

-- a place is told by whether it is taken and by its numbers
pub place-by : (x y : Place) → x.taken ≡ y.taken → table_numbers (place_table x) ≡ table_numbers (place_table y) → x ≡ y
place-by x y t e =
    let a : x.key.table ≡ y.key.table = cc in
    let b : x.key.extension ≡ y.key.extension = cc in
    let f : x.key.service ≡ y.key.service = cc in
    let g : x.key.start / 65536 ≡ y.key.start / 65536 = cc in
    let h : x.key.start % 65536 ≡ y.key.start % 65536 = cc in
    let c : x.version ≡ y.version = cc in
    let d : x.last ≡ y.last = cc in
    let l : x.lengths ≡ y.lengths = cc in
    same_place x y t (one_is x.key y.key (a, b, f, halves x.key.start y.key.start g h)) c d l

module _ (a b : Shelf) (size : ℕ) (w : size ≡ store_size) (s : spoiled_of a ≡ false) (r : spoiled_of b ≡ false) where
  told-taken : (x : Shelf) → spoiled_of x ≡ false → (p : ℕ) → p < places → (place_at x p).taken ≡ true → table_told x size p ≡ told 0 (table_numbers (place_table (place_at x p)))
  told-taken x q p l t = told-table x size p p (taken-place x size p w q l t)

  told_free : (x : Shelf) → spoiled_of x ≡ false → (p : ℕ) → (place_at x p).taken ≡ false → table_told x size p ≡ told 14 []
  told_free x q p f = told-refused x size p TableNotHeld (taken-14 x size p w q f)

  pub same_tables : Same a b → (p : ℕ) → p < places → table_told a size p ≡ table_told b size p
  same_tables same p h =
      by (place_at a p).taken
      (λ t.
      told-taken a s p h t
      ∙ ap (λ (x : Place). told 0 (table_numbers (place_table x))) (same.equal p h t)
      ∙ sym (told-taken b r p h (sym (same.takes p h) ∙ t)))
      (λ f. told_free a s p f ∙ sym (told_free b r p (sym (same.takes p h) ∙ f)))

  module _ (tell : (p : ℕ) → p < places → table_told a size p ≡ table_told b size p) where
    takes-alike : (p : ℕ) → p < places → (place_at a p).taken ≡ (place_at b p).taken
    takes-alike p h =
        by (place_at a p).taken
        (λ t.
        by (place_at b p).taken
        (λ u. t ∙ sym u)
        (λ f. let z : 0 ≡ 14 = ap (λ x. x.number) (sym (told-taken a s p h t) ∙ tell p h ∙ told_free b r p f) in absurd (omega arith)))
        (λ f.
        by (place_at b p).taken
        (λ u. let z : 14 ≡ 0 = ap (λ x. x.number) (sym (told_free a s p f) ∙ tell p h ∙ told-taken b r p h u) in absurd (omega arith))
        (λ g. f ∙ sym g))

    pub tables-same : Same a b
    tables-same =
        record {
          takes = takes-alike;
          equal =
              λ p h t.
              place-by (place_at a p) (place_at b p) (takes-alike p h)
              (ap (λ x. x.values) (sym (told-taken a s p h t) ∙ tell p h ∙ told-taken b r p h (sym (takes-alike p h) ∙ t)));
        }

pub same-told : SameTold
same-told a b s r = (same_tables a b store_size refl s r, tables-same a b store_size refl s r)

-- a table is told in twenty-three numbers
sixteen : (words : List ℕ) (p : ℕ) → length words ≡ 96 → p < 4 → length (place_at (shelf_at words) p).lengths ≡ 16
unfolding place_in table_in lengths_in
sixteen words p n h =
    rw (at_count words n, place_at_lem words p h)
    (by (taken_in words p) (λ t. rw t (length-listed 16 (length_in words p))) (λ f. rw f))

module _ (words : List ℕ) (size p : ℕ) where
  abbrev shelf : Shelf
  shelf = shelf_at words

  pub whole-told : (table_told shelf size p).number ≡ 0 → length (table_told shelf size p).values ≡ 23
  whole-told e = go (taken_of shelf size p) refl
    where
      go : (h : Result ℕ Refusal) → taken_of shelf size p ≡ h → length (table_told shelf size p).values ≡ 23
      go (Err r) q =
          let z : number r ≡ 0 = ap (λ t. t.number) (sym (told-refused shelf size p r q)) ∙ e in
          let l : 0 < number r = (in_byte r).0 in
          absurd (omega arith)
      go (Ok k) q =
          let i = taken-says shelf size p k q in
          let l : length (place_at shelf p).lengths ≡ 16 = sixteen words p (spoiled-count words i.sound) i.place in
          ap (λ t. length t.values) (told-table shelf size p k q) ∙ rw l

-- the question is answered exactly when neither 17, 18 nor 14 is so and twenty-three numbers are lent
pub table-accepted : (words store : List ℕ) (p : ℕ) (fields : List ℕ)
    → ((table_lent words store p fields).code ≡ 0) ↔ (((table_told (shelf_at words) (length store) p).number ≡ 0) × (23 ≤ length fields))
unfolding table_lent
table-accepted words store p fields =
    let both = puts-accepted (table_told (shelf_at words) (length store) p) fields in (
      λ e. let w = both.0 e in (w.0, rw (whole-told words (length store) p w.0) at w.1),
      λ w. both.1 (w.0, rw (whole-told words (length store) p w.0) w.1),
    )
