-- The held sections in the file, one after another.
--   held-count, listed-size             how many they are, and how many bytes they take
--   none-listed, one-listed, all_listed the output, turn by turn, where there is room (`Ready`)
use mathlib.Core.Path.{◌≡◌, refl, sym, ap, ◌∙◌}
use mathlib.Core.List.{List, append-nil}
use Prim.Native.Nat.{ℕ, zero, suc, ◌+◌, ◌<◌, ◌≤◌}
use native.Mathlib.Nat.{le_of_suc-le-suc, eq-or-lt_of_le, not-suc-le-zero}
use mathlib.Core.Logic.{⊎_elim}
use native.Mathlib.Numerals.{add-one}
use native.Mathlib.Omega.{arith}
use lib.Dec.{eqb}
use lib.ListN.{length, get_or, length-append}
use Rattle.base.proofs.Cases.{by}
use Rattle.berth.specs.Berth.{berth_size, places, sections, store_size, laid, standing}
use Rattle.berth.proofs.Berths.{standing-length}
use Rattle.berth.proofs.Laid.{laid_beside}
use Rattle.file.specs.Layout.{listed, chosen}
use Rattle.file.proofs.Listed.{listed-append}
use Rattle.shelf_save.specs.Sizes.{held_of, size_of, count_of, size_below, count_below, Berthed}
use Rattle.shelf_save.specs.Save.{held_below}
use Rattle.shelf_save.proofs.Adding.{none-sized, next-size}
use Rattle.shelf_save.proofs.Writing.{laid-nothing}

-- one section
one-count : (size : ℕ) (store : List ℕ) (p n : ℕ) → length (held_of size store p n) ≡ count_of size
unfolding held_of count_of
one-count size store p n = by (eqb size 0) (λ t. rw t) (λ f. rw f)

one_size : (size : ℕ) (store : List ℕ) (p n : ℕ) → length store ≡ store_size → p < places → n < sections → size ≤ berth_size
    → length (listed (held_of size store p n)) ≡ size_of size
unfolding held_of size_of listed
one_size size store p n w hp hn h =
    let e : length (standing store p n size) ≡ size = standing-length store w p n hp hn size h in
    by (eqb size 0) (λ t. rw t) (λ f. rw (f, e, append-nil, length-append, e))

pub held-count : (lengths store : List ℕ) (p k : ℕ) → length (held_below k lengths store p) ≡ count_below k lengths
unfolding held_below held_of chosen count_below
held-count lengths store p zero = refl
held-count lengths store p (suc k) =
    length-append (held_below k lengths store p) _ ∙ rw (held-count lengths store p k, one-count (get_or lengths k 0) store p k)

size_below_lem : (lengths : List ℕ) (k : ℕ) → size_below k lengths ≤ size_below (suc k) lengths
unfolding size_below
size_below_lem lengths k = omega arith

-- fewer sections take no more bytes
pub size-most : (lengths : List ℕ) (n k : ℕ) → k ≤ n → size_below k lengths ≤ size_below n lengths
size-most lengths n k h =
    ⊎_elim (λ e. rw e (omega arith)) (λ l. go n l) (eq-or-lt_of_le h)
  where
    go : (n : ℕ) → k < n → size_below k lengths ≤ size_below n lengths
    go zero l = absurd (not-suc-le-zero l)
    go (suc n) l =
        ⊎_elim
        (λ e. rw e (size_below_lem lengths n))
        (λ i. omega (arith, go n i, size_below_lem lengths n))
        (eq-or-lt_of_le (le_of_suc-le-suc l))

-- a place of a whole store, with lengths that fit their berths
pub record Stands (lengths store : List ℕ) (p : ℕ) : Type 0 where
  pub whole : length store ≡ store_size
  pub place : p < places
  pub berthed : Berthed lengths

pub small : {lengths store : List ℕ} {p : ℕ} → Stands lengths store p → (n : ℕ) → n < sections → get_or lengths n 0 ≤ berth_size
unfolding Berthed
small s = s.berthed

pub listed-size : {lengths store : List ℕ} {p : ℕ} → Stands lengths store p → (k : ℕ) → k ≤ sections
    → length (listed (held_below k lengths store p)) ≡ size_below k lengths
unfolding held_below held_of chosen size_below listed
listed-size s zero h = refl
listed-size {lengths} {store} {p} s (suc k) h =
    ap length (listed-append (held_below k lengths store p) _)
    ∙ length-append (listed (held_below k lengths store p)) _
    ∙ rw (listed-size s k (omega arith), one_size (get_or lengths k 0) store p k s.whole s.place (omega arith) (small s k (omega arith)))

-- .. and room for its sections in an output, from a place on
pub record Ready (lengths store : List ℕ) (p : ℕ) (old : List ℕ) (from : ℕ) : Type 0 where
  pub stands : Stands lengths store p
  pub fits : from + size_below sections lengths ≤ length old

pub as-stands : {lengths store : List ℕ} {p : ℕ} → (p < places) × (length store ≡ store_size) → Berthed lengths → Stands lengths store p
as-stands w b = record { whole = w.1; place = w.0; berthed = b }

pub as-ready :
    {lengths store : List ℕ}
    {p : ℕ}
    {old : List ℕ}
    {from : ℕ}
    → (p < places) × (length store ≡ store_size)
    → Berthed lengths
    → from + size_below sections lengths ≤ length old
    → Ready lengths store p old from
as-ready w b f = record { stands = as-stands w b; fits = f }

module _ {lengths store : List ℕ} {p : ℕ} {old : List ℕ} {from : ℕ} (r : Ready lengths store p old from) where
  -- the output after the sections among the first k numbers
  abbrev listed_to : ℕ → List ℕ
  listed_to k = laid old from (listed (held_below k lengths store p))

  pub none-at : from ≡ from + size_below 0 lengths
  none-at = omega (arith, none-sized lengths)

  pub none-listed : old ≡ listed_to 0
  unfolding held_below chosen listed
  none-listed = sym (laid-nothing old from)

  module _ {at k : ℕ} (a : at ≡ from + size_below k lengths) (l : k < sections) where
    pub room_next : {room : ℕ} → room ≡ length old → at + size_of (get_or lengths k 0) ≤ room
    room_next e = omega (arith, r.fits, size-most lengths sections (k + 1) (omega arith), next-size lengths k)

    pub one_at : {next : ℕ} → next ≡ at + size_of (get_or lengths k 0) → next ≡ from + size_below (k + 1) lengths
    one_at e = omega (arith, next-size lengths k)

    pub one-listed : {out back : List ℕ} → out ≡ listed_to k → back ≡ laid out at (listed (held_of (get_or lengths k 0) store p k))
        → back ≡ listed_to (k + 1)
    unfolding held_below held_of chosen
    one-listed e f =
        let before = listed (held_below k lengths store p) in
        let more = listed (held_of (get_or lengths k 0) store p k) in
        let n : length before ≡ size_below k lengths = listed-size r.stands k (omega arith) in
        let m : size_below k lengths ≤ size_below sections lengths = size-most lengths sections k (omega arith) in
        let s : at ≡ from + length before = omega arith in
        let fits = r.fits in
        f
        ∙ rw (e, s)
        (laid_beside old from before (omega arith) more (omega arith)
        ∙ ap (laid old from) (rw add-one (sym (listed-append (held_below k lengths store p) _))))

  pub all_listed : {out : List ℕ} {k : ℕ} → k ≡ sections → out ≡ listed_to k → out ≡ listed_to sections
  all_listed e q = q ∙ ap listed_to e
