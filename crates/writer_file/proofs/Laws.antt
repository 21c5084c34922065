-- Bytes at the front of an output, and what is written after them.
--   front-more       the rest of an output, lent from their end on, comes back with more at its front
--   spelt-at         a number that fits is written
--   section-at       a section that fits is written
--   listed-one-more  a section more in a file's list
use mathlib.Core.Path.{◌≡◌, refl, sym, ap, ◌∙◌}
use mathlib.Core.List.{List, [], ◌∷◌, ◌++◌, append_assoc, append-nil}
use Prim.Native.Nat.{ℕ, ◌+◌, ◌-◌, ◌≤◌}
use native.Mathlib.Omega.{arith}
use lib.ListN.{length, take, drop, length-append, length-drop, drop_of_length-le}
use lib.Seq.{take_all, drop-drop, take-append_seam, drop-append_seam}
use borrow.Author.Tests.{le-ltb}
use borrow.Rule.Slice.PartMut.{mid_of, put_mid}
use Rattle.file_number.specs.Number.{spelt, Writing, writing, written_of}
use Rattle.std.specs.Prelude.{Result, Ok}
use Rattle.refusal.specs.declared.Refusal.{Refusal}
use Rattle.file.specs.Layout.{listed}
use Rattle.key.specs.Key.{nrt_it}
use Rattle.writer.specs.Writer.{longest_body, last_of, written, Write, write, placed, write_of}
use Rattle.writer.specs.declared.Label.{Label}
use Rattle.writer.proofs.Laws.{write_done}

module _ (done one old out back : List ℕ) (at : ℕ) (place : at ≡ length done) (room : length done + length one ≤ length old)
    (front : out ≡ done ++ drop (length done) old) where
  front-drop : drop at out ≡ drop (length done) old
  front-drop = rw (place, front) (drop-append_seam done (drop (length done) old))

  front_length : length out ≡ length old
  front_length = ap length front ∙ rw (length-append, length-drop) (omega arith)

  -- what is lent is the rest of the output
  pub lent-rest : mid_of at (length out - at) out ≡ drop (length done) old
  lent-rest =
      ap (take (length out - at)) front-drop
      ∙ take_all (length out - at) (drop (length done) old)
      (rw length-drop (let e : length out ≡ length old = front_length in omega arith))

  pub lent-room : length one ≤ length (mid_of at (length out - at) out)
  lent-room = rw (lent-rest, length-drop) (omega arith)

  pub front-more : back ≡ one ++ drop (length one) (mid_of at (length out - at) out) →
      put_mid at (length out - at) out back ≡ (done ++ one) ++ drop (length (done ++ one)) old
  front-more e =
      let first : take at out ≡ done = rw (place, front) (take-append_seam done (drop (length done) old)) in
      let none : drop (length out - at) (drop at out) ≡ [] =
      drop_of_length-le (drop at out) {i = length out - at} (rw length-drop (omega arith)) in
      rw (first, none, append-nil, e, lent-rest, drop-drop, length-append, append_assoc)

-- a number that fits
module _ (n : ℕ) (rest back : List ℕ) (r : Result ℕ Refusal) (room : length (spelt n) ≤ length rest)
    (e : writing r back ≡ written_of n rest) where
  put : writing r back ≡ writing (Ok (length (spelt n))) (spelt n ++ drop (length (spelt n)) rest)
  unfolding written_of
  put = e ∙ rw (le-ltb (length rest) (length (spelt n)) room)

  pub spelt-count : r ≡ Ok (length (spelt n))
  spelt-count = ap (λ (w : Writing). w.said) put

  pub spelt-at : back ≡ spelt n ++ drop (length (spelt n)) rest
  spelt-at = ap (λ (w : Writing). w.out) put

-- a section that fits
module _ (label : Label) (body : List ℕ) (k : ℕ) (other : ¬ (label.table ≡ nrt_it)) (fits : length body ≤ longest_body) (five : label.version ≤ 31)
    (known : k ≤ last_of (length body)) (rest back : List ℕ) (r : Result ℕ Refusal) (room : length (written label body k) ≤ length rest)
    (e : write r back ≡ write_of label body k rest) where
  put-section : write r back ≡ placed (written label body k) rest
  put-section =
      e ∙ sym (write_done label body rest k (length (written label body k)) other fits five known refl room (written label body k) refl)

  pub section-count : r ≡ Ok (length (written label body k))
  section-count = ap (λ (w : Write). w.said) put-section

  pub section-at : back ≡ written label body k ++ drop (length (written label body k)) rest
  section-at = ap (λ (w : Write). w.out) put-section

pub listed-one-more : (ss : List (List ℕ)) (s : List ℕ) → listed (ss ++ (s ∷ [])) ≡ listed ss ++ (spelt (length s) ++ s)
unfolding listed
listed-one-more [] s = rw append-nil
listed-one-more (t ∷ ss) s = rw (listed-one-more ss s) (simp append_assoc)
