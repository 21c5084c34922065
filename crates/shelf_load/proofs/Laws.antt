-- Laws on storing a file's sections, for each turn of the loop that does it.
--   lies, last-low     a section lies in the file and fits a berth; the last number is below 16
--   stored-none, stored_one, stored-skipped     the store, turn by turn
--   all-stored         every section is put, since none is above the last
use mathlib.Core.Path.{◌≡◌, refl, sym, ap, ◌∙◌}
use mathlib.Core.Bool.{true, false}
use mathlib.Core.List.{List}
use mathlib.Core.Logic.{⊎_elim}
use Prim.Native.Nat.{ℕ, zero, suc, ◌+◌, ◌-◌, ◌<◌, ◌≤◌}
use native.Mathlib.Nat.{eq-or-lt_of_le}
use native.Mathlib.Numerals.{add-one}
use native.Mathlib.Omega.{arith}
use lib.Dec.{eqb}
use lib.ListN.{length, get_or}
use borrow.Author.Tests.{eq-eqb, ne_eqb, eqb-false, le-leb}
use Rattle.base.specs.Bytes.{part}
use Rattle.base.proofs.Bytes.{length_part}
use Rattle.base.proofs.Cases.{by}
use Rattle.berth.specs.Berth.{berth_size, places, sections, store_size, put}
use Rattle.berth.specs.Calls.{is_berth, goes_in, put_in}
use Rattle.berth.proofs.Berths.{put-length}
use Rattle.berth.proofs.Steps.{is-berth}
use Rattle.shelf_load.specs.Steps.{Within}
use Rattle.shelf_load.specs.Load.{stored_below}

-- a section that fits its berth is put there
pub put-in : (store : List ℕ) (p n : ℕ) (section : List ℕ) → is_berth (length store) p n ≡ true → length section ≤ berth_size →
    put_in store p n section ≡ put store p n section
unfolding put_in goes_in
put-in store p n section b h = rw (b, le-leb _ _ h)

-- where a section of that size begins
pub record Lies (file : List ℕ) (start size : ℕ) : Type 0 where
  pub inside : start + size ≤ length file
  pub fits : size ≤ berth_size

pub lies : (file starts lengths : List ℕ) (last : ℕ) → Within file starts lengths last → (n size : ℕ) → size ≡ get_or lengths n 0 → (size ≡ 0 → ⊥)
    → Lies file (get_or starts n 0) size
unfolding Within
lies file starts lengths last w n size e h =
    ⊎_elim (λ z. absurd (h (e ∙ z))) (λ l. record { inside = rw e l.0; fits = rw e l.1 }) (w.1 n)

pub last-low : (file starts lengths : List ℕ) (last : ℕ) → Within file starts lengths last → last < sections
unfolding Within
last-low file starts lengths last w = w.0

-- no section has a number above the last
none_above : (file starts lengths : List ℕ) (last : ℕ) → Within file starts lengths last → (n : ℕ) → last < n → get_or lengths n 0 ≡ 0
unfolding Within
none_above file starts lengths last w n h = ⊎_elim (λ z. z) (λ l. absurd (let k : n ≤ last = l.2 in omega arith)) (w.1 n)

-- of an accepted file every section is put, and none is above the last
module _ (old : List ℕ) (p : ℕ) (file starts lengths : List ℕ) (last : ℕ) (w : Within file starts lengths last) (n : length old ≡ store_size) (l : p < places) where
  -- a section that is put
  there : (k : ℕ) → eqb (get_or lengths k 0) 0 ≡ false → Lies file (get_or starts k 0) (get_or lengths k 0)
  there k t = lies file starts lengths last w k (get_or lengths k 0) refl (eqb-false _ _ t)

  sized : (k : ℕ) → eqb (get_or lengths k 0) 0 ≡ false → length (part file (get_or starts k 0) (get_or lengths k 0)) ≤ berth_size
  sized k t = rw (length_part file (get_or starts k 0) (get_or lengths k 0) (there k t).inside) (there k t).fits

  kept : (k : ℕ) → k ≤ sections → length (stored_below k file starts lengths old p) ≡ store_size
  unfolding stored_below
  kept zero h = n
  kept (suc k) h =
      let ih = kept k (omega arith) in
      by (eqb (get_or lengths k 0) 0)
      (λ t. rw t ih)
      (λ t. rw t (put-length (stored_below k file starts lengths old p) ih p k l (omega arith) (part file (get_or starts k 0) (get_or lengths k 0)) (sized k t) ∙ ih))

  pub stored-none : old ≡ stored_below 0 file starts lengths old p
  unfolding stored_below
  stored-none = refl

  module _ (store : List ℕ) (k size : ℕ) (e : size ≡ get_or lengths k 0) (q : store ≡ stored_below k file starts lengths old p) where
    -- a section is lent from its start to its end
    pub stored_one : k < sections → (size ≡ 0 → ⊥)
        → put_in store p k (part file (get_or starts k 0) (get_or starts k 0 + size - get_or starts k 0)) ≡ stored_below (k + 1) file starts lengths old p
    unfolding stored_below
    stored_one h d =
        let m : get_or starts k 0 + size - get_or starts k 0 ≡ size = omega arith in
        let f : eqb (get_or lengths k 0) 0 ≡ false = ne_eqb (get_or lengths k 0) 0 (λ z. d (e ∙ z)) in
        rw (add-one, f, ← q, m, e)
        (put-in store p k (part file (get_or starts k 0) (get_or lengths k 0))
        (is-berth (length store) p k (ap length q ∙ kept k (omega arith)) l h)
        (sized k f))

    pub stored-skipped : size ≡ 0 → store ≡ stored_below (k + 1) file starts lengths old p
    unfolding stored_below
    stored-skipped z = q ∙ rw (add-one, eq-eqb (get_or lengths k 0) 0 (sym e ∙ z))

  rest : (m : ℕ) → last + 1 ≤ m → stored_below m file starts lengths old p ≡ stored_below (last + 1) file starts lengths old p
  unfolding stored_below
  rest zero h = absurd (omega arith)
  rest (suc m) h =
      ⊎_elim
      (λ e. ap (λ k. stored_below k file starts lengths old p) (sym e))
      (λ g.
      let z : get_or lengths m 0 ≡ 0 = none_above file starts lengths last w m (omega arith) in
      rw (eq-eqb (get_or lengths m 0) 0 z) (rest m (omega arith)))
      (eq-or-lt_of_le h)

  pub all-stored : (store : List ℕ) (k : ℕ) → k ≡ last + 1 → store ≡ stored_below k file starts lengths old p → store ≡ stored_below sections file starts lengths old p
  all-stored store k e q =
      let h : last < sections = last-low file starts lengths last w in
      q ∙ ap (λ m. stored_below m file starts lengths old p) e ∙ sym (rest sections (omega arith))
