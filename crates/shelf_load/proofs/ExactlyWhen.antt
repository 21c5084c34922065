-- "Given exactly when": document 01's numbers for loading, in their order 17, 18, file faults, 13, 9, and what is left where none of
-- them is so.
--   StoreSize, KeyHeld, NoFreePlace   what 17, 13 and 9 say; `Spoiled` of the shelf is 18's
--   refused-17, refused-18            the number is given exactly when it is so and none before it is
--   refused-file                      .. a number of the file, 2 to 8, 46, 11 or 12
--   refused-13, refused-9
--   not_refused                       none is given exactly when none is so
--   load-done                         and then the lowest free place has the file's table
--   refused-untouched                 a refused load leaves the record and the store as they were
use mathlib.Core.Path.{◌≡◌, refl, sym, ap, subst, ◌∙◌}
use mathlib.Core.Bool.{false, not}
use mathlib.Core.List.{List, [], ◌∷◌}
use mathlib.Core.Logic.Iff
use mathlib.Core.Logic.{◌↔◌, ⊎_elim, true-and}
use Prim.Native.Nat.{ℕ, ◌<◌}
use native.Mathlib.Omega.{arith}
use lib.Dec.{eqb}
use lib.ListN.{length}
use borrow.Author.Tests.{eqb-false, ne_eqb, not-true}
use Rattle.base.specs.Choice.{Row, ◌if◌}
use Rattle.base.specs.Tables.{Rule, ◌says◌, None, above, said, Agree, Decides}
use Rattle.base.proofs.Cases.{by}
use Rattle.base.proofs.Tables.{words, given, passed, silent, among}
use Rattle.section.specs.declared.Header.{Header}
use Rattle.std.specs.Prelude.{Result, Ok, Err}
use Rattle.refusal.specs.Refusal.{number as number_for, number_of}
use Rattle.refusal.specs.declared.Refusal.{Refusal}
use Rattle.refusal.specs.declared.Refusal.TheVariants as refusal
use Rattle.refusal.proofs.Numbers.{once}
use Rattle.berth.specs.Berth.{sections, places, store_size}
use Rattle.shelf.specs.Record.{place_at, with_place, spoiled_of, place_of, free_of}
use Rattle.key.specs.declared.Key.{Key}
use Rattle.shelf.specs.Record.{Shelf}
use Rattle.shelf.proofs.Find.{place-le, place-has}
use Rattle.shelf.proofs.Words.{Some, HasKey, has-key, Spoiled, decided, not-held, none_free}
use Rattle.shelf.specs.Record.{key_of}
use Rattle.file.specs.Scan.{scan_of}
use Rattle.file.specs.declared.Table.{Table}
use Rattle.shelf_load.specs.Load.{After, loaded_place, stored_below, no, table_of, answered, load_of}
use Rattle.shelf_load.proofs.Faults.{FileFault, scan-range}

-- the number of what a call leaves
abbrev num : After → ℕ
num a = number_of a.said

-- a number that is neither 17 nor 18
abbrev Late : ℕ → Type 0
Late n = (n ≡ 17 → ⊥) × (n ≡ 18 → ⊥)

not-early : (n : ℕ) → n < 14 → Late n
not-early n l = (λ e. omega arith, λ e. omega arith)

-- what no fault of a file is
record Other (n : ℕ) : Type 0 where
  some : n ≡ 0 → ⊥
  place : n ≡ 9 → ⊥
  held : n ≡ 13 → ⊥
  late : Late n

fault-other : (n : ℕ) → FileFault n → Other n
fault-other n =
    ⊎_elim
    (⊎_elim
    (λ a. record { some = λ e. omega (arith, a.0); place = λ e. omega (arith, a.1); held = λ e. omega (arith, a.1); late = (λ e. omega (arith, a.1), λ e. omega (arith, a.1)) })
    (of 46 (omega arith) (omega arith)))
    (⊎_elim (of 11 (omega arith) (omega arith)) (of 12 (omega arith) (omega arith)))
  where
    of : (m : ℕ) → 10 < m → (m ≡ 13 → ⊥) × (m ≡ 17 → ⊥) × (m ≡ 18 → ⊥) → n ≡ m → Other n
    of m l d q = record { some = λ e. omega arith; place = λ e. omega arith; held = λ e. d.0 (sym q ∙ e); late = (λ e. d.1 (sym q ∙ e), λ e. d.2 (sym q ∙ e)) }

-- a place has the key
key-held : (shelf : Shelf) (key : Key) → Decides (not (eqb (place_of shelf key) places)) (Some places (λ p. HasKey (place_at shelf p) key))
key-held shelf key = (
  λ e.
      let n : place_of shelf key ≡ places → ⊥ = eqb-false _ _ (not-true _ e) in
      let l : place_of shelf key < places = omega (arith, place-le shelf key) in
      (place_of shelf key, l, (has-key (place_at shelf (place_of shelf key)) key).0 (place-has shelf key l)),
  λ w. by (eqb (place_of shelf key) places) (λ t. absurd ((not-held shelf key).0 t w)) (λ f. rw f),
)

module _ (shelf : Shelf) (store file : List ℕ) where
  -- 17: a lent store not 65,536 bytes
  abbrev pub StoreSize : Type 0
  StoreSize = ¬ (length store ≡ store_size)

  -- 13: loading a key already held
  abbrev pub KeyHeld : Header → Type 0
  KeyHeld h = Some places (λ p. HasKey (place_at shelf p) (key_of h))

  -- 9: new key, no free place
  abbrev pub NoFreePlace : Type 0
  NoFreePlace = ¬ (Some places (λ p. (place_at shelf p).taken ≡ false))

  -- before the file is read, and after
  abbrev pub early : List Rule
  early = 17 says StoreSize ∷ 18 says Spoiled shelf ∷ []

  abbrev pub late : Header → List Rule
  late h = 13 says KeyHeld h ∷ 9 says NoFreePlace ∷ []

  -- the file holds a table of which that is so
  abbrev pub Holds : (Header → Type 0) → Type 0
  Holds p = (t : Table) × (scan_of file ≡ Ok t) × p t.header

  abbrev pub number : ℕ
  number = num (load_of shelf store file)

  abbrev refuse : Refusal → After
  refuse = no shelf store file

  abbrev early-rows : List Row
  early-rows = refusal.StoreSize if not (eqb (length store) store_size) ∷ refusal.ShelfSpoiled if spoiled_of shelf ∷ []

  abbrev late-rows : Header → List Row
  late-rows h = refusal.KeyHeld if not (eqb (place_of shelf (key_of h)) places) ∷ refusal.NoFreePlace if eqb (free_of shelf) places ∷ []

  abbrev done : Table → After
  done table =
      record {
        said = Ok tt;
        shelf = with_place shelf (free_of shelf) (loaded_place table.header table.lengths);
        store = stored_below sections file table.starts table.lengths store (free_of shelf);
      }

  early-so : Agree early-rows early
  early-so = search (words, decided)

  late-so : (h : Header) → Agree (late-rows h) (late h)
  late-so h = search (words, key-held, none_free)

  module _ (table : Table) where
    abbrev h : Header
    h = table.header

    late-given : (n : ℕ) → 0 < n → (num (table_of shelf store file table) ≡ n) ↔ (None (above n (late h)) × said n (late h))
    unfolding table_of
    late-given n p = given refuse num (λ n. refl) (late-rows h) (done table) (late h) (late-so h) refl n (omega arith)

    late-none : (num (table_of shelf store file table) ≡ 0) ↔ None (late h)
    unfolding table_of
    late-none = Iff.trans (passed refuse num (λ n. refl) (late-rows h) (done table) (late h) (late-so h) 0 refl) (λ w. w.0, λ w. (w, refl))

    late-done : None (late h) → table_of shelf store file table ≡ done table
    unfolding table_of
    late-done w = silent refuse (late-rows h) (done table) (late h) (late-so h) w

    -- 13, 9 or none
    late-range : (P : After → Type 0) → P (refuse refusal.KeyHeld) → P (refuse refusal.NoFreePlace) → P (done table) → P (table_of shelf store file table)
    unfolding table_of
    late-range P a b c = among refuse P (late-rows h) (done table) (a, (b, tt)) c

  -- what is answered of the file
  abbrev answer : After
  answer = answered shelf store file (scan_of file)

  -- by the two answers of the scan
  module _ (P : After → Type 0) (f : (r : Refusal) → scan_of file ≡ Err r → P (refuse r))
      (t : (table : Table) → scan_of file ≡ Ok table → P (table_of shelf store file table)) where
    by-scan : P answer
    by-scan = go (scan_of file) refl
      where
        go : (scan : Result Table Refusal) → scan_of file ≡ scan → P (answered shelf store file scan)
        go (Err r) e = f r e
        go (Ok table) e = t table e

  apart : {r : Refusal} {t : Table} {A : Type 0} → scan_of file ≡ Err r → scan_of file ≡ Ok t → A
  apart e q = absurd (let z : ◌≡◌ {A = ℕ} 0 1 = cc in omega arith)

  one-table : {t u : Table} → scan_of file ≡ Ok t → scan_of file ≡ Ok u → t ≡ u
  one-table e q = cc

  -- of a number that no fault of the file has
  held-so : (m : ℕ) → ((n : ℕ) → FileFault n → n ≡ m → ⊥) → (p : Header → Type 0)
      → ((t : Table) → (num (table_of shelf store file t) ≡ m) ↔ p t.header) → (num answer ≡ m) ↔ Holds p
  held-so m none p t =
      by-scan (λ a. (num a ≡ m) ↔ Holds p)
      (λ r e. (λ q. absurd (none (number_for r) (scan-range file r e) q), λ w. apart e w.1))
      (λ u e. (λ q. (u, e, (t u).0 q), λ w. (t u).1 (subst p (ap (λ x. x.header) (one-table w.1 e)) w.2)))

  small : Late (num answer)
  small =
      by-scan (λ a. Late (num a))
      (λ r e. (fault-other (number_for r) (scan-range file r e)).late)
      (λ t e. late-range t (λ a. Late (num a)) (not-early 13 (omega arith)) (not-early 9 (omega arith)) (not-early 0 (omega arith)))

  early-given : (n : ℕ) → (Late n → ⊥) → (number ≡ n) ↔ (None (above n early) × said n early)
  unfolding load_of
  early-given n l = given refuse num (λ n. refl) early-rows answer early early-so refl n (λ e. l (subst Late e small))

  -- past 17 and 18
  late-passed : (n : ℕ) → Late n → (number ≡ n) ↔ (None early × (num answer ≡ n))
  unfolding load_of
  late-passed n l =
      passed refuse num (λ n. refl) early-rows answer early early-so n (rw (ne_eqb 17 n (λ e. l.0 (sym e)), ne_eqb 18 n (λ e. l.1 (sym e))))

  within : {A B C : Type 0} → B ↔ C → (A × B) ↔ (A × C)
  within e = (λ w. (w.0, e.0 w.1), λ w. (w.0, e.1 w.1))

  pub refused-17 : (number ≡ 17) ↔ StoreSize
  refused-17 = Iff.trans (early-given 17 (λ l. l.0 refl)) true-and

  pub refused-18 : (number ≡ 18) ↔ (None (above 18 early) × Spoiled shelf)
  refused-18 = early-given 18 (λ l. l.1 refl)

  -- the first fault of the file from the left
  pub refused-file : (r : Refusal) → FileFault (number_for r) → (number ≡ number_for r) ↔ (None early × (scan_of file ≡ Err r))
  refused-file r f =
      let n = number_for r in
      let k = fault-other n f in
      Iff.trans (late-passed n k.late)
      (within
      (by-scan (λ a. (num a ≡ n) ↔ (scan_of file ≡ Err r))
      (λ m e. (λ q. e ∙ ap Err (once m r q), λ q. ap number_of (sym e ∙ q)))
      (λ t e. (
        λ q. late-range t (λ a. num a ≡ n → scan_of file ≡ Err r)
            (λ z. absurd (k.held (sym z))) (λ z. absurd (k.place (sym z))) (λ z. absurd (k.some (sym z))) q,
        λ q. apart q e,
      ))))

  pub refused-13 : (number ≡ 13) ↔ (None early × Holds KeyHeld)
  refused-13 =
      Iff.trans (late-passed 13 (not-early 13 (omega arith)))
      (within
      (held-so 13 (λ n f e. (fault-other n f).held e) KeyHeld (λ t. Iff.trans (late-given t 13 (omega arith)) true-and)))

  pub refused-9 : (number ≡ 9) ↔ (None early × Holds (λ h. None (above 9 (late h)) × NoFreePlace))
  refused-9 =
      Iff.trans (late-passed 9 (not-early 9 (omega arith)))
      (within (held-so 9 (λ n f e. (fault-other n f).place e) (λ h. None (above 9 (late h)) × NoFreePlace) (λ t. late-given t 9 (omega arith))))

  pub not_refused : (number ≡ 0) ↔ (None early × Holds (λ h. None (late h)))
  not_refused =
      Iff.trans (late-passed 0 (not-early 0 (omega arith)))
      (within (held-so 0 (λ n f e. (fault-other n f).some e) (λ h. None (late h)) (λ t. late-none t)))

  pub load-done : None early → (w : Holds (λ h. None (late h))) → load_of shelf store file ≡ done w.0
  unfolding load_of
  load-done e w =
      silent refuse early-rows answer early early-so e
      ∙ ap (answered shelf store file) w.1
      ∙ late-done w.0 w.2

  pub refused-untouched : (r : Refusal) → (load_of shelf store file).said ≡ Err r → load_of shelf store file ≡ refuse r
  unfolding load_of
  refused-untouched r e =
      among refuse Untouched early-rows answer (λ q. same q, (λ q. same q, tt))
      (by-scan Untouched (λ m _ q. same q) (λ t _. late-range t Untouched (λ q. same q) (λ q. same q) (λ q. absurd (let z : ◌≡◌ {A = ℕ} 0 1 = cc in omega arith))))
      e
    where
      Untouched : After → Type 0
      Untouched a = a.said ≡ Err r → a ≡ refuse r

      same : {m : Refusal} → ◌≡◌ {A = Result (Unit {0}) Refusal} (Err m) (Err r) → refuse m ≡ refuse r
      same {m} q = let k : m ≡ r = cc in ap refuse k
