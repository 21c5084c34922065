-- One section after its length, at the front of a buffer that has room for both.
--   Room                       a section of the table, and room for it
--   starts, not-unspelt        the length is written
--   counts, not-unwritten      and the section after it
--   one_written                what the buffer then is
use mathlib.Core.Path.{◌≡◌, sym, ap, ◌∙◌}
use mathlib.Core.List.{List, ◌++◌}
use Prim.Native.Nat.{ℕ, ◌+◌, ◌-◌, ◌≤◌}
use native.Mathlib.Omega.{arith}
use lib.ListN.{length, drop, length-append, length-drop}
use borrow.Rule.Slice.PartMut.{mid_of, put_mid}
use Rattle.file_number.specs.Number.{spelt, writing, written_of}
use Rattle.std.specs.Prelude.{Result, Ok, Err}
use Rattle.refusal.specs.declared.Refusal.{Refusal}
use Rattle.key.specs.Key.{nrt_it}
use Rattle.writer.specs.Writer.{longest_body, last_of, written, write, write_of}
use Rattle.writer.specs.declared.Label.{Label}
use Rattle.writer_file.specs.Sizes.{size_at, entry_size}
use Rattle.writer_file.proofs.Laws.{lent-room, front-more, spelt-count, spelt-at, section-count, section-at}
use Rattle.writer_file.proofs.Sizes.{section-size}

pub record Room (label : Label) (body : List ℕ) (k : ℕ) (rest : List ℕ) : Type 0 where
  pub other : ¬ (label.table ≡ nrt_it)
  pub fits : length body ≤ longest_body
  pub five : label.version ≤ 31
  pub known : k ≤ last_of (length body)
  pub room : entry_size (size_at (length body) k) ≤ length rest

module _ {label : Label} {body : List ℕ} {k : ℕ} {rest : List ℕ} (o : Room label body k rest) where
  abbrev n : ℕ
  n = size_at (length body) k

  sized : length (written label body k) ≡ n
  sized = section-size label body k o.known

  module _ {size : ℕ} (is : size ≡ n) {back : List ℕ} {r : Result ℕ Refusal} (e : writing r back ≡ written_of size rest) where
    spelt-fits : length (spelt size) ≤ length rest
    spelt-fits = rw is (let l : entry_size n ≤ length rest = o.room in omega arith)

    -- the length stands at the front
    spelt-front : back ≡ spelt n ++ drop (length (spelt n)) rest
    spelt-front = rw is at (spelt-at size rest back r spelt-fits e)

    pub starts : {start : ℕ} → r ≡ Ok start → start ≡ length (spelt n)
    starts {start} q =
        let x : Ok (length (spelt size)) ≡ Ok start = sym (spelt-count size rest back r spelt-fits e) ∙ q in
        let c : length (spelt size) ≡ start = cc in
        sym c ∙ ap (λ m. length (spelt m)) is

    pub not-unspelt : {A : Type 0} {refusal : Refusal} → r ≡ Err refusal → A
    not-unspelt {refusal = refusal} q = let x : Ok (length (spelt size)) ≡ Err refusal = sym (spelt-count size rest back r spelt-fits e) ∙ q in cc

    pub starts-inside : {start : ℕ} → r ≡ Ok start → start ≤ length back
    starts-inside {start} q =
        let s : start ≡ length (spelt n) = starts q in
        let l : entry_size n ≤ length rest = o.room in
        let b : length back ≡ length rest = ap length spelt-front ∙ rw (length-append, length-drop) (omega arith) in
        omega arith

    module _ {start : ℕ} (q : r ≡ Ok start) {part : List ℕ} {s : Result ℕ Refusal}
        (w : write s part ≡ write_of label body k (mid_of start (length back - start) back)) where
      both : length (spelt n) + length (written label body k) ≤ length rest
      both = rw sized o.room

      part_room : length (written label body k) ≤ length (mid_of start (length back - start) back)
      part_room = lent-room (spelt n) (written label body k) rest back part start (starts q) both spelt-front

      pub counts : {count : ℕ} → s ≡ Ok count → start + count ≡ entry_size n
      counts {count} c =
          let x : Ok (length (written label body k)) ≡ Ok count =
          sym (section-count label body k o.other o.fits o.five o.known _ part s part_room w) ∙ c in
          let y : length (written label body k) ≡ count = cc in
          let z : length (written label body k) ≡ n = sized in
          let a : start ≡ length (spelt n) = starts q in
          omega arith

      pub not-unwritten : {A : Type 0} {refusal : Refusal} → s ≡ Err refusal → A
      not-unwritten {refusal = refusal} c =
          let x : Ok (length (written label body k)) ≡ Err refusal =
          sym (section-count label body k o.other o.fits o.five o.known _ part s part_room w) ∙ c in
          cc

      pub one_written : put_mid start (length back - start) back part ≡ (spelt n ++ written label body k) ++ drop (entry_size n) rest
      one_written =
          let m : length (spelt n ++ written label body k) ≡ entry_size n = length-append (spelt n) (written label body k) ∙ rw sized in
          front-more (spelt n) (written label body k) rest back part start (starts q) both spelt-front
          (section-at label body k o.other o.fits o.five o.known _ part s part_room w)
          ∙ ap (λ m. (spelt n ++ written label body k) ++ drop m rest) m
