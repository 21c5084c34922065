-- A load on lent numbers is the load on the record that they are.
--   below-lent, loaded-lent                    the record after a table's head and lengths are written
--   load_said, load-shelf, load_store          the load
use Rattle.std.specs.Prelude.{if◌then◌else◌, Result, Ok, Err}
use Rattle.refusal.specs.declared.Refusal.{Refusal}
use mathlib.Core.Path.{◌≡◌, refl, sym, ap, ◌∙◌}
use mathlib.Core.Bool.{true, false, not}
use mathlib.Core.List.{List}
use mathlib.Core.Logic.{⊎_elim}
use Prim.Native.Nat.{ℕ, zero, suc, ◌<◌, ◌≤◌}
use native.Mathlib.Omega.{arith}
use lib.Dec.{eqb, ltb}
use lib.ListN.{length, get_or, set, replicate, length-set}
use lib.Seq.{ext_get_or, get_or-set_same, get_or-set_other, set-get_or}
use borrow.Author.Tests.{eqb-true, eqb-false, lt-ltb, le-ltb, ltb-true, ltb-false}
use Rattle.base.specs.Octets.{Octets}
use Rattle.base.specs.Bytes.{part}
use Rattle.base.proofs.Bytes.{octets-part}
use Rattle.base.proofs.Cases.{by, same_or, and_left}
use Rattle.section.specs.declared.Header.{Header}
use Rattle.section.proofs.Laws.{sound-facts}
use Rattle.berth.specs.Berth.{places, store_size}
use Rattle.shelf.specs.Record.{Place, Shelf, key_of, with_length, place_at, with_place, spoiled_of, place_of, free_of}
use Rattle.key.specs.declared.Key.{Key}
use Rattle.key.specs.Key.{same_key}
use Rattle.key.proofs.Keys.{Proper, from_proper, same_key_lem}
use Rattle.section.specs.Section.{key_in}
use Rattle.section.proofs.Keys.{key_fits}
use Rattle.shelf.specs.Layout.{listed, taken_in, shelf_in, shelf_at}
use Rattle.shelf_write.specs.Writes.{head_in}
use Rattle.shelf.proofs.Find.{free-le}
use Rattle.shelf.proofs.Lists.{length-listed, get_d-listed}
use Rattle.shelf.proofs.Numbers.{at_count, spoiled-count, taken_at}
use Rattle.shelf_write.proofs.Lent.{four, with_at, with-with, head-lent, head-fits, held-lent}
use Rattle.file.specs.Scan.{scan_of}
use Rattle.file.specs.Layout.{same_table}
use Rattle.file.specs.declared.Table.{Table}
use Rattle.file.proofs.Held.{held}
use Rattle.refusal.specs.declared.Refusal.TheVariants.{StoreSize, ShelfSpoiled}
use Rattle.shelf_load.specs.Load.{table_of, answered, load_of}
use Rattle.shelf_load.specs.On.{held_below, table_by, words_by, load_on}
use Rattle.shelf_load.proofs.Holding.{below_length}

-- the first k of sixteen lengths
abbrev up_to : ℕ → List ℕ → List ℕ
up_to k lengths = listed 16 (λ n. if ltb n k then get_or lengths n 0 else 0)

at_up : (k : ℕ) (lengths : List ℕ) (n : ℕ) → n < 16 → get_or (up_to k lengths) n 0 ≡ (if ltb n k then get_or lengths n 0 else 0)
at_up k lengths n h = get_d-listed 16 (λ n. if ltb n k then get_or lengths n 0 else 0) n h

up_none : (lengths : List ℕ) → up_to 0 lengths ≡ replicate 16 0
unfolding listed
up_none lengths = refl

up-all : (lengths : List ℕ) → length lengths ≡ 16 → up_to 16 lengths ≡ lengths
up-all lengths e =
    ext_get_or 0 (up_to 16 lengths) lengths (length-listed 16 _ ∙ sym e)
    (λ n h. let l : n < 16 = omega (arith, length-listed 16 (λ n. if ltb n 16 then get_or lengths n 0 else 0)) in at_up 16 lengths n l ∙ rw (lt-ltb n 16 l))

up-length : (k : ℕ) (lengths : List ℕ) → length (up_to k lengths) ≡ 16
up-length k lengths = length-listed 16 (λ n. if ltb n k then get_or lengths n 0 else 0)

module _ (lengths : List ℕ) (k : ℕ) (hk : k < 16) where
  -- another number than k is among the first k + 1 where it is among the first k
  beside : (n : ℕ) → (n ≡ k → ⊥) → ltb n (suc k) ≡ ltb n k
  beside n d =
      by (ltb n k)
      (λ t. rw t (lt-ltb n (suc k) (let l : n < k = ltb-true n k t in omega arith)))
      (λ f. rw f (le-ltb n (suc k) (let l : k ≤ n = ltb-false n k f in omega (arith, d))))

  up-set : up_to (suc k) lengths ≡ set (up_to k lengths) k (get_or lengths k 0)
  up-set =
      let v = get_or lengths k 0 in
      ext_get_or 0 (up_to (suc k) lengths) (set (up_to k lengths) k v)
      (up-length (suc k) lengths ∙ sym (up-length k lengths) ∙ sym (length-set (up_to k lengths) k v))
      (λ n h.
      let l : n < 16 = omega (arith, up-length (suc k) lengths) in
      ⊎_elim
      (λ (e : n ≡ k).
      rw e
      (at_up (suc k) lengths k hk
      ∙ rw (lt-ltb k (suc k) (omega arith))
      (sym (get_or-set_same (up_to k lengths) k v 0 (omega (arith, up-length k lengths))))))
      (λ d. at_up (suc k) lengths n l ∙ rw (beside n d) (sym (get_or-set_other (up_to k lengths) k n v 0 d ∙ at_up k lengths n l)))
      (same_or n k))

  up-skip : get_or lengths k 0 ≡ 0 → up_to (suc k) lengths ≡ up_to k lengths
  up-skip z =
      let none : get_or (up_to k lengths) k 0 ≡ 0 = at_up k lengths k hk ∙ rw (le-ltb k k (omega arith)) in
      up-set ∙ ap (set (up_to k lengths) k) (z ∙ sym none) ∙ set-get_or (up_to k lengths) k 0

-- a table's head, and the lengths of its first k sections
module _ (words : List ℕ) (fits : length words ≡ 96) (p : ℕ) (hp : p < 4) (key : Key) (version last : ℕ) (ht : key.table < 256) (proper : Proper key) (lengths : List ℕ) where
  abbrev table : ℕ → Place
  table k = record { taken = true; key = key; version = version; last = last; lengths = up_to k lengths }

  abbrev numbers : ℕ → List ℕ
  numbers k = held_below k (head_in words p key version last) p lengths

  as_many : (k : ℕ) → length (numbers k) ≡ 96
  as_many k = below_length (head_in words p key version last) p lengths k ∙ head-fits words fits p hp key version last

  at_place : (x : Place) → place_at (with_place (shelf_at words) p x) p ≡ x
  at_place x = rw (at_count words fits) (with_at (shelf_in words) p x (omega (arith, four words)))

  below-lent : (k : ℕ) → k ≤ 16 → shelf_at (numbers k) ≡ with_place (shelf_at words) p (table k)
  unfolding held_below
  below-lent zero h =
      head-lent words fits p hp key version last ht proper
      ∙ ap (λ l. with_place (shelf_at words) p (record { taken = true; key = key; version = version; last = last; lengths = l })) (sym (up_none lengths))
  below-lent (suc k) h =
      let ih = below-lent k (omega arith) in
      by (eqb (get_or lengths k 0) 0)
      (λ t. rw t (ih ∙ ap (λ l. with_place (shelf_at words) p (record { taken = true; key = key; version = version; last = last; lengths = l })) (sym (up-skip lengths k (omega arith) (eqb-true _ _ t)))))
      (λ f.
      let d : get_or lengths k 0 ≡ 0 → ⊥ = eqb-false _ _ f in
      let now : place_at (shelf_at (numbers k)) p ≡ table k = ap (λ s. place_at s p) ih ∙ at_place (table k) in
      let taken : taken_in (numbers k) p ≡ true
      = sym (taken_at (numbers k) p hp) ∙ ap (λ s. (place_at s p).taken) (sym (at_count (numbers k) (as_many k))) ∙ ap (λ x. x.taken) now in
      rw f
      (held-lent (numbers k) (as_many k) p hp k (omega arith) (get_or lengths k 0) (omega (arith, d)) taken
      ∙ rw (now, ih) (with-with (shelf_at words) p (table k) (with_length (table k) k (get_or lengths k 0)))
      ∙ ap (λ l. with_place (shelf_at words) p (record { taken = true; key = key; version = version; last = last; lengths = l })) (sym (up-set lengths k (omega arith)))))

  pub loaded-lent :
      length lengths ≡ 16
      → shelf_at (numbers 16) ≡ with_place (shelf_at words) p (record { taken = true; key = key; version = version; last = last; lengths = lengths })
  loaded-lent e =
      below-lent 16 (omega arith)
      ∙ ap (λ l. with_place (shelf_at words) p (record { taken = true; key = key; version = version; last = last; lengths = l })) (up-all lengths e)

-- what is so of the header of an accepted file of bytes
record Narrow (h : Header) (lengths : List ℕ) : Type 0 where
  table : (key_of h).table < 256
  proper : Proper (key_of h)
  sixteen : length lengths ≡ 16

module _ (file : List ℕ) (o : Octets file) where
  narrow : (t : Table) → scan_of file ≡ Ok t → Narrow t.header t.lengths
  unfolding same_table
  narrow t e =
      let h = t.header in
      let w = held file t e in
      let n = w.some.0 in
      ⊎_elim
      (λ z. absurd (let m = w.some.1 in omega (arith, m, z)))
      (λ l.
      let g = l.header in
      let s = part file (get_or t.starts n 0) (get_or t.lengths n 0) in
      let k : h.key ≡ g.key = same_key_lem h.key g.key (and_left (same_key h.key g.key) _ l.shares) in
      let own : h.key ≡ key_in s = k ∙ ap (λ x. x.key) (sound-facts s g l.sound).header in
      record {
        table = rw own (key_fits s (octets-part file (get_or t.starts n 0) (get_or t.lengths n 0) o)).table;
        proper = rw own (from_proper _ _ _ _);
        sixteen = w.sizes;
      })
      (w.each n)

  module _ (words store : List ℕ) where
    abbrev shelf : Shelf
    shelf = shelf_at words

    kept : (s : Result Table Refusal) (r : Refusal) → words_by words (free_of shelf) s (Err r) ≡ words
    kept (Ok table) r = refl
    kept (Err q) r = refl

    table-shelf :
        spoiled_of shelf ≡ false
        → (table : Table)
        → Narrow table.header table.lengths
        → shelf_at (table_by words (free_of shelf) table (table_of shelf store file table).said) ≡ (table_of shelf store file table).shelf
    unfolding table_of
    table-shelf u table g =
        let h = table.header in
        by (eqb (place_of shelf (key_of h)) places)
        (λ a.
        by (eqb (free_of shelf) places)
        (λ b. rw (a, b))
        (λ b.
        let d : free_of shelf ≡ places → ⊥ = eqb-false _ _ b in
        let l : free_of shelf < 4 = omega (arith, free-le shelf, d) in
        rw (a, b)
        (loaded-lent words (spoiled-count words u) (free_of shelf) l (key_of h) h.version h.last g.table g.proper table.lengths g.sixteen)))
        (λ a. rw a)

    answer-shelf :
        spoiled_of shelf ≡ false
        → (s : Result Table Refusal)
        → scan_of file ≡ s
        → shelf_at (words_by words (free_of shelf) s (answered shelf store file s).said) ≡ (answered shelf store file s).shelf
    answer-shelf u (Ok table) e = table-shelf u table (narrow table e)
    answer-shelf u (Err r) e = refl

    pub load-shelf : shelf_at (load_on words store file).words ≡ (load_of shelf store file).shelf
    unfolding load_on load_of
    load-shelf =
        by (not (eqb (length store) store_size))
        (λ a. rw (a, kept (scan_of file) StoreSize))
        (λ a.
        by (spoiled_of shelf)
        (λ b. rw (a, b, kept (scan_of file) ShelfSpoiled))
        (λ b. rw (a, b) (answer-shelf b (scan_of file) refl)))

module _ (words store file : List ℕ) where
  pub load_said : (load_on words store file).said ≡ (load_of (shelf_at words) store file).said
  unfolding load_on
  load_said = refl

  pub load_store : (load_on words store file).store ≡ (load_of (shelf_at words) store file).store
  unfolding load_on
  load_store = refl
