-- What is written at a place of the output.
--   lent-end                              the rest of an output, lent from a place on, comes back with bytes at its front
--   wrote_ok, wrote_count, wrote-number   a number that fits
--   laid-nothing                          nothing laid changes nothing
--   held_none, held-end, held-written     a section after its length, where there is room (`Room`)
use mathlib.Core.Path.{◌≡◌, sym, ap, ◌∙◌}
use mathlib.Core.Bool.{true}
use mathlib.Core.List.{List, [], ◌++◌, append-nil}
use Prim.Native.Nat.{ℕ, ◌+◌, ◌-◌, ◌<◌, ◌≤◌}
use native.Mathlib.Nat.{add-zero}
use native.Mathlib.Omega.{arith}
use lib.ListN.{length, drop, length-drop, drop_of_length-le, take-append-drop}
use lib.Seq.{take_all, drop-drop}
use borrow.Author.Tests.{le-ltb, le-leb, eq-eqb, ne_eqb}
use borrow.Rule.Slice.PartMut.{mid_of, put_mid}
use Rattle.berth.specs.Berth.{berth_size, places, sections, store_size, laid, standing}
use Rattle.berth.specs.Calls.{is_berth, goes_in, copied_in}
use Rattle.berth.proofs.Berths.{standing-length}
use Rattle.berth.proofs.Laid.{laid-length, laid_beside}
use Rattle.berth.proofs.Steps.{is-berth}
use Rattle.file_number.specs.Number.{spelt, Writing, writing, written_of}
use Rattle.std.specs.Prelude.{Result, Ok, IsOk, is_ok}
use Rattle.refusal.specs.declared.Refusal.{Refusal}
use Rattle.file.specs.Layout.{listed}
use Rattle.shelf_save.specs.Sizes.{held_of, size_of}
use Rattle.shelf_save.proofs.Adding.{no_size, some_size}

pub laid-nothing : (old : List ℕ) (at : ℕ) → laid old at [] ≡ old
unfolding laid
laid-nothing old at = rw add-zero (take-append-drop at old)

module _ (old : List ℕ) (at : ℕ) where
  -- what is lent from a place on
  pub lent-whole : at ≤ length old → mid_of at (length old - at) old ≡ drop at old
  lent-whole h = take_all (length old - at) (drop at old) (simp length-drop (omega arith))

  pub lent_length : at ≤ length old → length (mid_of at (length old - at) old) ≡ length old - at
  lent_length h = ap length (lent-whole h) ∙ length-drop at old

  pub lent-end : (bytes back : List ℕ) → at + length bytes ≤ length old → back ≡ bytes ++ drop (length bytes) (mid_of at (length old - at) old)
      → put_mid at (length old - at) old back ≡ laid old at bytes
  unfolding laid
  lent-end bytes back h e =
      let none : drop (length old - at) (drop at old) ≡ [] = drop_of_length-le (drop at old) {i = length old - at} (simp length-drop (omega arith)) in
      rw (none, append-nil, e, lent-whole (omega arith), drop-drop)

-- a number that fits
module _ (n at : ℕ) (old : List ℕ) {back : List ℕ} {r : Result ℕ Refusal} (h : at + length (spelt n) ≤ length old)
    (e : writing r back ≡ written_of n (mid_of at (length old - at) old)) where
  wrote : writing r back ≡ writing (Ok (length (spelt n))) (spelt n ++ drop (length (spelt n)) (mid_of at (length old - at) old))
  unfolding written_of
  wrote =
      let lent = mid_of at (length old - at) old in
      let l : length (spelt n) ≤ length lent = rw (lent_length old at (omega arith)) (omega arith) in
      e ∙ rw (le-ltb (length lent) (length (spelt n)) l)

  wrote-size : r ≡ Ok (length (spelt n))
  wrote-size = ap (λ (w : Writing). w.said) wrote

  pub wrote_ok : IsOk r
  wrote_ok = ap is_ok wrote-size

  pub wrote_count : {count : ℕ} → r ≡ Ok count → count ≡ length (spelt n)
  wrote_count {count} q =
      let e : ◌≡◌ {A = Result ℕ Refusal} (Ok count) (Ok (length (spelt n))) = sym q ∙ wrote-size in
      cc

  pub wrote-number : put_mid at (length old - at) old back ≡ laid old at (spelt n)
  wrote-number = lent-end old at (spelt n) back h (ap (λ (w : Writing). w.out) wrote)

-- a section in a berth, and room for it in the output
pub record Room (store : List ℕ) (p n size : ℕ) (old : List ℕ) (at : ℕ) : Type 0 where
  pub whole : length store ≡ store_size
  pub place : p < places
  pub number : n < sections
  pub small : size ≤ berth_size
  pub some : size ≡ 0 → ⊥
  pub fits : at + size_of size ≤ length old

pub as-room :
    {store : List ℕ}
    {p n size : ℕ}
    {old : List ℕ}
    {at : ℕ}
    → (p < places) × (n < sections) × (length store ≡ store_size)
    → (size ≤ berth_size) × (at + size_of size ≤ length old)
    → (size ≡ 0 → ⊥)
    → Room store p n size old at
as-room w f d = record { whole = w.2; place = w.0; number = w.1; small = f.0; some = d; fits = f.1 }

-- no section
pub held_none : (store : List ℕ) (p n size : ℕ) (old : List ℕ) (at : ℕ) → size ≡ 0
    → (at ≡ at + size_of size) × (old ≡ laid old at (listed (held_of size store p n)))
unfolding held_of listed
held_none store p n size old at z =
    (let e : 0 ≡ size_of size = no_size size z in omega arith, rw (eq-eqb size 0 z) (sym (laid-nothing old at)))

-- a section after its length
module _ {store : List ℕ} {p n size : ℕ} {old : List ℕ} {at : ℕ} (r : Room store p n size old at) where
  bytes-length : length (standing store p n size) ≡ size
  bytes-length = standing-length store r.whole p n r.place r.number size r.small

  -- one section in the file
  listed-one : listed (held_of size store p n) ≡ spelt size ++ standing store p n size
  unfolding held_of listed
  listed-one = rw (ne_eqb size 0 r.some, bytes-length, append-nil)

  together : length (spelt size) + size ≡ size_of size
  together = some_size size r.some

  -- there is room for its length
  pub room-length : at + length (spelt size) ≤ length old
  room-length = omega (arith, together, r.fits)

  -- the length is written, and the section comes after it
  module _ {start : ℕ} {mid : List ℕ} (s : start ≡ at + length (spelt size)) (m : mid ≡ laid old at (spelt size)) where
    room-bytes : start + size ≤ length mid
    room-bytes = omega (arith, together, r.fits, ap length m ∙ laid-length old at (spelt size) room-length)

    pub room-start : start ≤ length mid
    room-start = omega (arith, room-bytes)

    module _ {count : ℕ} (c : count ≡ size) where
      pub held-end : start + count ≡ at + size_of size
      held-end = omega (arith, together)

      copied-whole : copied_in store p n count (mid_of start (length mid - start) mid)
          ≡ standing store p n size ++ drop size (mid_of start (length mid - start) mid)
      unfolding copied_in goes_in
      copied-whole =
          let lent = mid_of start (length mid - start) mid in
          let b : is_berth (length store) p n ≡ true = is-berth (length store) p n r.whole r.place r.number in
          let l : size ≤ length lent = rw (lent_length mid start room-start) (omega (arith, room-bytes)) in
          rw (c, b, le-leb size berth_size r.small, le-leb size (length lent) l)

      pub held-written : {back : List ℕ} → back ≡ copied_in store p n count (mid_of start (length mid - start) mid)
          → put_mid start (length mid - start) mid back ≡ laid old at (listed (held_of size store p n))
      held-written {back} e =
          let bytes = standing store p n size in
          let fits : start + length bytes ≤ length mid = rw bytes-length room-bytes in
          let came : back ≡ bytes ++ drop (length bytes) (mid_of start (length mid - start) mid) = e ∙ copied-whole ∙ rw bytes-length in
          lent-end mid start bytes back fits came
          ∙ rw (m, s) (laid_beside old at (spelt size) (omega (arith, room-length)) bytes room-length)
          ∙ ap (laid old at) (sym listed-one)
