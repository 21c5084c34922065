-- How many bytes sections and the file take.
--   section-size       a written section has the size that the body's length gives
--   full_size          1,024 bytes but for the last
--   small_size         8 to 1,024 bytes
--   one-group, two-groups      the size of a section with its length
--   front-none, front-next     the front of the file, section by section
--   front-size, file-size, file-small      its size, and that of the file, which is at most 16,418
--   entry-room                 there is room for the next section
use mathlib.Core.Path.{◌≡◌, refl, sym, ap, subst, ◌∙◌}
use mathlib.Core.List.{List, [], ◌∷◌, ◌++◌, append_assoc}
use Prim.Native.Nat.{ℕ, zero, suc, ◌+◌, ◌-◌, ◌*◌, ◌<◌, ◌≤◌}
use native.Mathlib.Omega.{arith}
use native.Mathlib.Numerals.{add-one}
use lib.Dec.{ltb}
use lib.ListN.{length, length-append}
use borrow.Author.Tests.{lt-ltb, le-ltb, ltb-true, ltb-false}
use mathlib.Core.Logic.{⊎_elim}
use Rattle.base.proofs.Cases.{by, same_or}
use Rattle.file_number.specs.Number.{spelt}
use Rattle.file_number.proofs.Spelling.{spelt-1, spelt-2}
use Rattle.file.specs.Layout.{listed, file_of}
use Rattle.writer.specs.Writer.{full, longest_body, last_of, end_of, body_at, written}
use Rattle.writer.specs.declared.Label.{Label}
use Rattle.writer.proofs.Laws.{last-le, starts-within, ends-within, length-body, length-section}
use Rattle.writer_file.specs.Feeding.{sections_below, feed_file}
use Rattle.writer_file.specs.Sizes.{size_at, entry_size, file_size, front_of}
use Rattle.writer_file.proofs.Laws.{listed-one-more}

pub section-size : (label : Label) (body : List ℕ) (k : ℕ) → k ≤ last_of (length body) → length (written label body k) ≡ size_at (length body) k
unfolding written
section-size label body k h =
    length-section label k (last_of (length body)) (body_at body k) ∙ ap (λ n. 8 + n) (length-body body k h)

module _ (n k : ℕ) where
  -- the body's end where what is left is not full, and where it is
  pub end-part : n - full * k < full → end_of n (full * k) ≡ n
  end-part l = rw (lt-ltb _ _ l)

  pub end-full : full ≤ n - full * k → end_of n (full * k) ≡ full * k + full
  end-full l = rw (le-ltb _ _ l)

  pub full_size : k < last_of n → size_at n k ≡ 1024
  unfolding last_of
  full_size h =
      let e : end_of n (full * k) ≡ full * k + full = end-full (omega arith) in
      omega arith

  pub small_size : k ≤ last_of n → size_at n k ≤ 1024
  small_size h = let w = ends-within n (full * k) (starts-within n k h) in omega arith

module _ (size : ℕ) where
  pub one-group : size < 128 → entry_size size ≡ 1 + size
  one-group l = rw (spelt-1 size l)

  pub two-groups : 128 ≤ size → size ≤ 1024 → entry_size size ≡ 2 + size
  two-groups m l = rw (spelt-2 size m (omega arith))

module _ (n k : ℕ) where
  pub full-entry : k < last_of n → entry_size (size_at n k) ≡ 1026
  full-entry h =
      let e : size_at n k ≡ 1024 = full_size n k h in
      let t : entry_size (size_at n k) ≡ 2 + size_at n k = two-groups (size_at n k) (omega arith) (omega arith) in
      omega arith

  pub entry-small : k ≤ last_of n → entry_size (size_at n k) ≤ 1026
  entry-small h =
      let s : size_at n k ≤ 1024 = small_size n k h in
      by (ltb (size_at n k) 128)
      (λ t. let e : entry_size (size_at n k) ≡ 1 + size_at n k = one-group (size_at n k) (ltb-true _ _ t) in omega arith)
      (λ t. let e : entry_size (size_at n k) ≡ 2 + size_at n k = two-groups (size_at n k) (ltb-false _ _ t) s in omega arith)

-- the largest file
pub file-small : (n : ℕ) → n ≤ longest_body → file_size n ≤ 16418
file-small n h =
    let l : last_of n ≤ 15 = last-le n h in
    let e : entry_size (size_at n (last_of n)) ≤ 1026 = entry-small n (last_of n) (omega arith) in
    omega arith

module _ (label : Label) (body : List ℕ) where
  abbrev last : ℕ
  last = last_of (length body)

  pub sections-count : (n : ℕ) → length (sections_below label body n) ≡ n
  unfolding sections_below
  sections-count zero = refl
  sections-count (suc n) = length-append (sections_below label body n) (written label body n ∷ []) ∙ rw (sections-count n) (omega arith)

  module _ (count : ℕ) where
    pub front-none : count < 128 → front_of label body count 0 ≡ 1 ∷ count ∷ []
    unfolding front_of sections_below listed
    front-none l = rw (spelt-1 1 (omega arith), spelt-1 count l)

    pub front-next : (k : ℕ) → k ≤ last →
        front_of label body count (k + 1) ≡ front_of label body count k ++ (spelt (size_at (length body) k) ++ written label body k)
    unfolding front_of sections_below
    front-next k h =
        rw (add-one, listed-one-more (sections_below label body k) (written label body k), section-size label body k h)
        (simp append_assoc)

    module _ (few : count < 128) where
      pub front-size : (k : ℕ) → k ≤ last → length (front_of label body count k) ≡ 2 + 1026 * k
      front-size zero h = ap length (front-none few)
      front-size (suc k) h =
          let ih : length (front_of label body count k) ≡ 2 + 1026 * k = front-size k (omega arith) in
          let s : length (written label body k) ≡ size_at (length body) k = section-size label body k (omega arith) in
          let e : entry_size (size_at (length body) k) ≡ 1026 = full-entry (length body) k (omega arith) in
          ap (λ n. length (front_of label body count n)) (let z : suc k ≡ k + 1 = omega arith in z)
          ∙ ap length (front-next k (omega arith))
          ∙ rw (length-append, length-append) (omega arith)

      -- there is room for the next section, where there is room for the file
      pub entry-room : (k : ℕ) → k ≤ last → length (front_of label body count k) + entry_size (size_at (length body) k) ≤ file_size (length body)
      entry-room k h =
          let f : length (front_of label body count k) ≡ 2 + 1026 * k = front-size k h in
          let l : length (front_of label body count last) ≡ 2 + 1026 * last = front-size last (omega arith) in
          let at_last : length (front_of label body count last) + entry_size (size_at (length body) last) ≤ file_size (length body) = omega arith in
          ⊎_elim
          (λ e. subst (λ n. length (front_of label body count n) + entry_size (size_at (length body) n) ≤ file_size (length body)) (sym e) at_last)
          (λ ne. let e : entry_size (size_at (length body) k) ≡ 1026 = full-entry (length body) k (omega arith) in omega arith)
          (same_or k last)

  pub file-front : feed_file label body ≡ front_of label body (last + 1) (last + 1)
  unfolding feed_file file_of front_of
  file-front = rw (sections-count (last + 1))

  pub file-size : length body ≤ longest_body → length (feed_file label body) ≡ file_size (length body)
  file-size fits =
      let few : last ≤ 15 = last-le (length body) fits in
      let f : length (front_of label body (last + 1) last) ≡ 2 + 1026 * last = front-size (last + 1) (omega arith) last (omega arith) in
      let s : length (written label body last) ≡ size_at (length body) last = section-size label body last (omega arith) in
      ap length (file-front ∙ front-next (last + 1) last (omega arith)) ∙ rw (length-append, length-append) (omega arith)
