-- What a load does.
--   Carried, carried   what is so of an accepted file's table
--   Reason, Goes, goes   the cases of a load
--   load-length        the store keeps its length
--   load-elsewhere     a berth that is not named stays as it was
--   load-own           one that is named has the section's bytes, then zeros
--   load-good          the shelf stays good
--   load_apart         a table that is not loaded is left alone
--   load-begins        the shelf keeps the table that the file carries
--   load-refused       a refused load changes nothing
use mathlib.Core.Path.{◌≡◌, refl, sym, ap, subst, ◌∙◌}
use mathlib.Core.Bool.{true, false, ◌&&◌}
use mathlib.Core.Logic.{⊎_elim}
use mathlib.Core.List.{List}
use Prim.Native.Nat.{ℕ, zero, suc, ◌<◌, ◌≤◌}
use native.Mathlib.Nat.{eq-or-lt_of_le, le_of_suc-le-suc, not-suc-le-zero}
use native.Mathlib.Omega.{arith}
use lib.Dec.{eqb, ltb}
use lib.Seq.{take_at}
use lib.ListN.{length, take, get_or, length-take, length-drop, get_or-eq_default}
use borrow.Author.Tests.{eqb-true, eqb-false, eq-eqb, ne_eqb, ltb-true, ltb-false, not-true, not-false}
use Rattle.std.specs.Prelude.{Result, Ok, Err}
use Rattle.refusal.specs.declared.Refusal.{Refusal}
use Rattle.refusal.specs.declared.Refusal.TheVariants.{NoFreePlace, KeyHeld, StoreSize, ShelfSpoiled}
use Rattle.base.proofs.Cases.{by, unlike, and_left, and_right}
use Rattle.section.specs.declared.Header.{Header}
use Rattle.section.proofs.Laws.{sound-facts}
use Rattle.berth.specs.Berth.{sections, places, store_size, berth_size, padded, standing}
use Rattle.berth.proofs.Berths.{Spared, standing-first}
use Rattle.shelf.specs.Record.{place_at, with_place, length_at, holds, has_key, spoiled_of, place_of, free_of}
use Rattle.key.specs.Key.{same_key}
use Rattle.key.specs.declared.Key.{Key}
use Rattle.shelf.proofs.Words.{Wrong}
use Rattle.shelf.specs.Record.{key_of}
use Rattle.file.specs.Layout.{same_table}
use Rattle.file.specs.Scan.{scan_of}
use Rattle.file.specs.declared.Table.{Table}
use Rattle.file.proofs.Held.{Lies, Holds, held}
use Rattle.shelf_load.specs.Load.{After, loaded_place, stored_below, no, table_of, answered, load_of}
use Rattle.shelf_laws.specs.File.{starts_in, lengths_in, length_in, carries, section_in}
use Rattle.shelf_laws.specs.State.{State, load_on, after_load}
use Rattle.shelf_laws.specs.Named.{load_names}
use Rattle.shelf_laws.specs.Answers.{is_done}
use Rattle.shelf_laws.specs.Log.{table_has, table_version, table_last, loads}
use Rattle.shelf_laws.specs.Laws.{LoadRefused, LoadElsewhere}
use Rattle.shelf_laws.proofs.Berths.{Berth, put-length, put-berth, put-elsewhere}
use Rattle.shelf_laws.proofs.Places.{at_same, has-not, its_key, unheld, free-le, free-at, right}
use Rattle.key.proofs.Keys.{same_key_lem, key-itself}
use Rattle.shelf_laws.proofs.Kept.{Good, Table as Keeping, Kept, Alike, alike-itself, alike-with, key-with, good-with}

-- what is so of an accepted file's table
pub record Carried (file : List ℕ) (h : Header) : Type 0 where
  pub version : h.version ≤ 31
  pub last : h.last ≤ 15
  pub sixteen : length (lengths_in (scan_of file)) ≡ sections
  pub some : ℕ
  pub has_some : (some < sections) × (carries file some ≡ true)
  pub number : (n : ℕ) → carries file n ≡ true → n ≤ h.last
  pub least : (n : ℕ) → carries file n ≡ true → 8 ≤ length_in file n
  pub most : (n : ℕ) → carries file n ≡ true → length_in file n ≤ berth_size
  pub size : (n : ℕ) → carries file n ≡ true → length (section_in file n) ≡ length_in file n

module _ (a b : Header) (e : same_table a b ≡ true) where
  same_version : a.version ≡ b.version
  unfolding same_table
  same_version =
      eqb-true _ _ (and_left (eqb a.version b.version) _ (and_right (same_key a.key b.key) _ e))

  same-last : a.last ≡ b.last
  unfolding same_table
  same-last =
      eqb-true _ _ (and_right (eqb a.version b.version) _ (and_right (same_key a.key b.key) _ e))

module _ (file : List ℕ) (table : Table) (e : scan_of file ≡ Ok table) where
  abbrev h : Header
  h = table.header

  pub holding : Holds file h (starts_in (scan_of file)) (lengths_in (scan_of file))
  holding = rw e (held file table e)

  lies : (n : ℕ) → carries file n ≡ true → Lies file h n (get_or (starts_in (scan_of file)) n 0) (length_in file n)
  lies n t = ⊎_elim (λ z. absurd (eqb-false _ _ (not-true (eqb (length_in file n) 0) t) z)) (λ l. l) (holding.each n)

  some-carried : carries file holding.some.0 ≡ true
  some-carried =
      let l : 8 ≤ length_in file holding.some.0 = holding.some.1 in
      rw (ne_eqb (length_in file holding.some.0) 0 (λ z. omega arith))

  -- a number that the file has is one of the sixteen
  carried-16 : (n : ℕ) → carries file n ≡ true → n < sections
  carried-16 n t =
      by (ltb n sections)
      (λ u. ltb-true _ _ u)
      (λ u.
      let s : length (lengths_in (scan_of file)) ≡ 16 = holding.sizes in
      let i : 16 ≤ n = ltb-false _ _ u in
      absurd (eqb-false _ _ (not-true (eqb (length_in file n) 0) t) (get_or-eq_default (lengths_in (scan_of file)) 0 (omega arith))))

  pub carried : Carried file h
  carried =
      let l = lies holding.some.0 some-carried in
      let v : l.header.version < 32 = (sound-facts _ l.header l.sound).version in
      let w : h.version ≡ l.header.version = same_version h l.header l.shares in
      record {
        version = omega arith;
        last = holding.last;
        sixteen = holding.sizes;
        some = holding.some.0;
        has_some = (carried-16 _ some-carried, some-carried);
        number = λ n t.
            let l = lies n t in
            let a : l.header.number ≤ l.header.last = (sound-facts _ l.header l.sound).number in
            let b : h.last ≡ l.header.last = same-last h l.header l.shares in
            let c : l.header.number ≡ n = l.number in
            omega arith;
        least = λ n t. (lies n t).low;
        most = λ n t. (lies n t).high;
        size = λ n t. let i = (lies n t).inside in simp (length-take, length-drop) (omega arith);
      }

-- the store with the first k of the file's sections in place p
abbrev filled : List ℕ → ℕ → List ℕ → ℕ → List ℕ
filled file k store p = stored_below k file (starts_in (scan_of file)) (lengths_in (scan_of file)) store p

-- the store with the file's sections
module _ (file : List ℕ) (h : Header) (sound : Carried file h) (store : List ℕ) (p : ℕ) (lent : length store ≡ store_size) (place : p < places) where
  fits : (n : ℕ) → carries file n ≡ true → length (section_in file n) ≤ berth_size
  fits n t = rw (sound.size n t) (sound.most n t)

  -- a number that the file has, and one that it lacks
  has : (n : ℕ) → carries file n ≡ true → eqb (length_in file n) 0 ≡ false
  has n t = not-true (eqb (length_in file n) 0) t

  lacks : (n : ℕ) → carries file n ≡ false → eqb (length_in file n) 0 ≡ true
  lacks n t = not-false (eqb (length_in file n) 0) t

  filled-length : (k : ℕ) → k ≤ sections → length (filled file k store p) ≡ store_size
  unfolding stored_below
  filled-length zero b = lent
  filled-length (suc k) b =
      let ih : length (filled file k store p) ≡ store_size = filled-length k (omega arith) in
      by (carries file k)
      (λ t. rw (has k t) (put-length (filled file k store p) p k (record { lent = ih; place = place; number = omega arith }) (section_in file k) (fits k t) ∙ ih))
      (λ t. rw (lacks k t) ih)

  berth-of : (k : ℕ) → k < sections → Berth (filled file k store p) p k
  berth-of k i = record { lent = filled-length k (omega arith); place = place; number = i }

  filled-elsewhere : (k : ℕ) → k ≤ sections → (q m c : ℕ) → m < sections → Spared (carries file) k p q m → c ≤ berth_size
      → standing (filled file k store p) q m c ≡ standing store q m c
  unfolding stored_below
  filled-elsewhere zero b q m c i spared j = refl
  filled-elsewhere (suc k) b q m c i spared j =
      let ih : standing (filled file k store p) q m c ≡ standing store q m c = filled-elsewhere k (omega arith) q m c i (λ e l. spared e (omega arith)) j in
      by (carries file k)
      (λ t.
      rw (has k t)
      (put-elsewhere (filled file k store p) p k (berth-of k (omega arith)) (section_in file k) (fits k t) q m c i
      (λ e n. spared e (omega arith) (ap (carries file) (sym n) ∙ t)) j
      ∙ ih))
      (λ t. rw (lacks k t) ih)

  filled-berth : (k : ℕ) → k ≤ sections → (n : ℕ) → n < k → carries file n ≡ true
      → standing (filled file k store p) p n berth_size ≡ padded berth_size (section_in file n)
  unfolding stored_below
  filled-berth zero b n l t = absurd (not-suc-le-zero l)
  filled-berth (suc k) b n l t =
      ⊎_elim
      (λ e. rw (e, has k (rw e at t)) (put-berth (filled file k store p) p k (berth-of k (omega arith)) (section_in file k) (fits k (rw e at t))))
      (λ less.
      let ih : standing (filled file k store p) p n berth_size ≡ padded berth_size (section_in file n) = filled-berth k (omega arith) n less t in
      by (carries file k)
      (λ u.
      rw (has k u)
      (put-elsewhere (filled file k store p) p k (berth-of k (omega arith)) (section_in file k) (fits k u) p n berth_size (omega arith)
      (λ _ (e : k ≡ n). omega arith) (omega arith)
      ∙ ih))
      (λ u. rw (lacks k u) ih))
      (eq-or-lt_of_le (le_of_suc-le-suc l))

  filled-here : (n : ℕ) → n < sections → carries file n ≡ true → standing (filled file sections store p) p n (length (section_in file n)) ≡ section_in file n
  unfolding padded
  filled-here n i t =
      standing-first (filled file sections store p) p n (length (section_in file n)) berth_size (fits n t)
      ∙ ap (take (length (section_in file n))) (filled-berth sections (omega arith) n i t)
      ∙ take_at (section_in file n) _ (length (section_in file n)) refl

module _ (s : State) (file : List ℕ) where
  pub data Reason : Result Table Refusal → Refusal → Type 0 where
    17-store : (scan : Result Table Refusal) → (length s.store ≡ store_size → ⊥) → Reason scan StoreSize
    18-spoiled : (scan : Result Table Refusal) → spoiled_of s.shelf ≡ true → Reason scan ShelfSpoiled
    faulty : (r : Refusal) → scan_of file ≡ Err r → Reason (Err r) r
    13-held : (table : Table) → (place_of s.shelf (key_of table.header) ≡ places → ⊥) → Reason (Ok table) KeyHeld
    9-full : (table : Table) → place_of s.shelf (key_of table.header) ≡ places → free_of s.shelf ≡ places → Reason (Ok table) NoFreePlace

  -- what is left where the table of a file gets the lowest free place
  abbrev loaded_as : Header → List ℕ → List ℕ → After
  loaded_as h starts lengths =
      record {
        said = Ok tt;
        shelf = with_place s.shelf (free_of s.shelf) (loaded_place h lengths);
        store = stored_below sections file starts lengths s.store (free_of s.shelf);
      }

  -- by what the scan answers
  pub data Goes : Result Table Refusal → After → Type 0 where
    refuses : (scan : Result Table Refusal) (r : Refusal) → Reason scan r → Goes scan (no s.shelf s.store file r)
    done : (table : Table) → Carried file table.header → length s.store ≡ store_size → spoiled_of s.shelf ≡ false → place_of s.shelf (key_of table.header) ≡ places
        → free_of s.shelf < places → Goes (Ok table) (loaded_as table.header (starts_in (scan_of file)) (lengths_in (scan_of file)))

  scanned-goes : length s.store ≡ store_size → spoiled_of s.shelf ≡ false → (scan : Result Table Refusal) → scan_of file ≡ scan
      → Goes scan (answered s.shelf s.store file scan)
  unfolding table_of
  scanned-goes l u (Err r) e = refuses (Err r) r (faulty r e)
  scanned-goes l u (Ok table) e =
      by (eqb (place_of s.shelf (key_of table.header)) places)
      (λ t.
      by (eqb (free_of s.shelf) places)
      (λ f. rw (t, f) (refuses (Ok table) NoFreePlace (9-full table (eqb-true _ _ t) (eqb-true _ _ f))))
      (λ f.
      let ne : free_of s.shelf ≡ places → ⊥ = eqb-false _ _ f in
      let le : free_of s.shelf ≤ places = free-le s.shelf in
      rw (t, f)
      (subst (λ scan. Goes (Ok table) (loaded_as table.header (starts_in scan) (lengths_in scan))) e
      (done table (carried file table e) l u (eqb-true _ _ t) (omega arith)))))
      (λ t. rw t (refuses (Ok table) KeyHeld (13-held table (eqb-false _ _ t))))

  pub goes : Goes (scan_of file) (load_on s file)
  unfolding load_of
  goes =
      by (eqb (length s.store) store_size)
      (λ t.
      by (spoiled_of s.shelf)
      (λ u. rw (t, u) (refuses (scan_of file) ShelfSpoiled (18-spoiled (scan_of file) u)))
      (λ u. rw (t, u) (scanned-goes (eqb-true _ _ t) u (scan_of file) refl)))
      (λ t. rw t (refuses (scan_of file) StoreSize (17-store (scan_of file) (eqb-false _ _ t))))

  unchanged-goes : {scan : Result Table Refusal} {r : After} → Goes scan r → is_done r.said ≡ false → after_load r ≡ s
  unchanged-goes (Goes.refuses _ _ _) e = refl
  unchanged-goes (Goes.done _ _ _ _ _ _) e = absurd (unlike e)

  length-goes : {scan : Result Table Refusal} {r : After} → Goes scan r → length r.store ≡ length s.store
  length-goes (Goes.refuses _ _ _) = refl
  length-goes (Goes.done table c l u e f) = filled-length file table.header c s.store (free_of s.shelf) l f sections (omega arith) ∙ sym l

  pub load-length : length (load_on s file).store ≡ length s.store
  load-length = length-goes goes

  elsewhere-goes : {scan : Result Table Refusal} {r : After} → Goes scan r → (p n k : ℕ) → n < sections → k ≤ berth_size
      → load_names s.shelf file r.said p n ≡ false → standing r.store p n k ≡ standing s.store p n k
  elsewhere-goes (Goes.refuses _ _ _) p n k i j e = refl
  elsewhere-goes (Goes.done table c l u q f) p n k i j e =
      filled-elsewhere file table.header c s.store (free_of s.shelf) l f sections (omega arith) p n k i
      (λ z _ t. unlike (sym (rw (eq-eqb p (free_of s.shelf) (sym z)) t) ∙ e)) j

  own-goes : {scan : Result Table Refusal} {r : After} → Goes scan r → (p n : ℕ) → n < sections → load_names s.shelf file r.said p n ≡ true
      → standing r.store p n berth_size ≡ padded berth_size (section_in file n)
  own-goes (Goes.refuses _ _ _) p n i e = absurd (unlike (sym e))
  own-goes (Goes.done table c l u q f) p n i e =
      let z : p ≡ free_of s.shelf = eqb-true _ _ (and_left (eqb p (free_of s.shelf)) (carries file n) e) in
      rw z (filled-berth file table.header c s.store (free_of s.shelf) l f sections (omega arith) n i (and_right (eqb p (free_of s.shelf)) (carries file n) e))

  pub load-own : (p n : ℕ) → n < sections → load_names s.shelf file (load_on s file).said p n ≡ true
      → standing (load_on s file).store p n berth_size ≡ padded berth_size (section_in file n)
  load-own = own-goes goes

  module _ (g : Good s) where
    load-right : (h : Header) → Carried file h → ¬ (Wrong (loaded_place h (lengths_in (scan_of file))))
    load-right h c =
        right (loaded_place h (lengths_in (scan_of file))) c.version c.last (λ n i t. (c.number n t, c.least n t, c.most n t)) c.some c.has_some.0 c.has_some.1

    good-goes : {scan : Result Table Refusal} {r : After} → Goes scan r → Good (after_load r)
    good-goes (Goes.refuses _ _ _) = g
    good-goes (Goes.done table c l u e f) =
        good-with s g.formed (free_of s.shelf) f (loaded_place table.header (lengths_in (scan_of file))) (filled file sections s.store (free_of s.shelf))
        (filled-length file table.header c s.store (free_of s.shelf) l f sections (omega arith)) u c.sixteen (λ _. load-right table.header c) (λ _ q i _. unheld s.shelf (key_of table.header) e q i)

    pub load-good : Good (after_load (load_on s file))
    load-good = good-goes goes

    apart-goes : {scan : Result Table Refusal} {r : After} → Goes scan r → (key : Key) → (table_has key scan && is_done r.said) ≡ false → Alike s (after_load r) key
    apart-goes (Goes.refuses _ _ _) key e = alike-itself s key
    apart-goes (Goes.done table c l u q f) key e =
        alike-with s g.formed (free_of s.shelf) f (loaded_place table.header (lengths_in (scan_of file))) (filled file sections s.store (free_of s.shelf)) key
        (has-not (place_at s.shelf (free_of s.shelf)) key (free-at s.shelf f))
        (by (has_key (loaded_place table.header (lengths_in (scan_of file))) key)
        (λ t.
        let z : same_key (key_of table.header) key ≡ true = ap (λ x. same_key x key) (its_key (loaded_place table.header (lengths_in (scan_of file))) key t) ∙ key-itself key in
        absurd (unlike (rw z at e)))
        (λ t. t))
        (λ p n k ne i j. filled-elsewhere file table.header c s.store (free_of s.shelf) l f sections (omega arith) p n k i (λ e _ _. ne (sym e)) j)

    pub load_apart : (key : Key) → (loads key file && is_done (load_on s file).said) ≡ false → Alike s (after_load (load_on s file)) key
    load_apart = apart-goes goes

    -- what the file carries, by what its scan answers
    abbrev pub carried_table : Result Table Refusal → Keeping
    carried_table scan = record { version = table_version scan; last = table_last scan; has = carries file; bytes = section_in file }

    begins-goes : {scan : Result Table Refusal} {r : After} → Goes scan r → (key : Key) → (table_has key scan && is_done r.said) ≡ true
        → Kept (after_load r) key (free_of s.shelf) (carried_table scan)
    begins-goes (Goes.refuses scan _ _) key e = absurd (unlike (sym (and_right (table_has key scan) false e)))
    begins-goes (Goes.done table c l u q f) key e =
        let z : key_of table.header ≡ key = same_key_lem _ _ (and_left (same_key (key_of table.header) key) true e) in
        let w : place_at (with_place s.shelf (free_of s.shelf) (loaded_place table.header (lengths_in (scan_of file)))) (free_of s.shelf) ≡ loaded_place table.header (lengths_in (scan_of file)) =
        at_same s.shelf g.formed (free_of s.shelf) f (loaded_place table.header (lengths_in (scan_of file))) in
        record {
          place =
              ap (place_of (with_place s.shelf (free_of s.shelf) (loaded_place table.header (lengths_in (scan_of file))))) (sym z)
              ∙ key-with s g.formed (free_of s.shelf) f (loaded_place table.header (lengths_in (scan_of file))) s.store (good-goes (Goes.done table c l u q f)).unspoiled refl;
          taken = f;
          version = ap (λ x. x.version) w;
          last = ap (λ x. x.last) w;
          numbers = λ n i. ap (λ x. holds x n) w;
          lengths = λ n i t. ap (λ x. length_at x n) w ∙ sym (c.size n t);
          stands = λ n i t. filled-here file table.header c s.store (free_of s.shelf) l f n i t;
        }

    pub load-begins : (key : Key) → (loads key file && is_done (load_on s file).said) ≡ true
        → Kept (after_load (load_on s file)) key (free_of s.shelf) (carried_table (scan_of file))
    load-begins = begins-goes goes

pub load-refused : LoadRefused
load-refused s file r e = unchanged-goes s file (goes s file) (ap is_done e)

pub load-elsewhere : LoadElsewhere
load-elsewhere s file = elsewhere-goes s file (goes s file)
