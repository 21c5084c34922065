-- Laws on the sections of a body.
--   last-le        the last number of a body that is not too long is at most 15
--   starts-within  a section's body starts within the body
--   ends-within    and ends there, at most a full body later
--   span           the same of the code's two ends
--   cut            the bytes between are the section's body
--   joined         a header and a body, written one after the other
--   length-body, length-section   the sizes of a section's body and of a section
--   write-15, write_done          the last two answers of a write
use mathlib.Core.Path.{◌≡◌, sym, ap, ◌∙◌}
use mathlib.Core.List.{List, ◌++◌, append-nil}
use Prim.Native.Nat.{ℕ, ◌+◌, ◌-◌, ◌*◌, ◌<◌, ◌≤◌}
use native.Mathlib.Omega.{arith}
use lib.Dec.{ltb, eqb}
use lib.ListN.{length, take, drop, length-append, length-drop, drop_of_length-le, take-append-drop}
use lib.Seq.{drop-length, take_at, drop_at, length-take-le}
use borrow.Rule.Slice.PartMut.{put_mid}
use borrow.Author.Tests.{ltb-true, ltb-false, le-ltb, lt-ltb, ne_eqb, eqb-false}
use Rattle.base.proofs.Cases.{by}
use Rattle.key.specs.Key.{nrt_it}
use Rattle.writer.specs.Writer.{full, longest_body, last_of, end_of, body_at, section_of, header_of, written, count_of, write, write_of}
use Rattle.std.specs.Prelude.{Ok, Err}
use Rattle.refusal.specs.declared.Refusal.{Refusal}
use Rattle.refusal.specs.declared.Refusal.TheVariants.{AskedForNrtIt, WriterBodyTooLong, WriterVersionAbove31, WriterKAboveLast, OutputTooSmall}
use Rattle.writer.specs.declared.Label.{Label}

pub last-le : (n : ℕ) → n ≤ longest_body → last_of n ≤ 15
unfolding last_of
last-le n h = omega arith

pub starts-within : (n k : ℕ) → k ≤ last_of n → full * k ≤ n
unfolding last_of
starts-within n k h = omega arith

module _ (n start : ℕ) (h : start ≤ n) where
  pub ends-within : (end_of n start ≤ n) × (start ≤ end_of n start) × (end_of n start ≤ start + full)
  ends-within =
      by (ltb (n - start) full)
      (λ t. let l : n - start < full = ltb-true _ _ t in rw t (omega arith, omega arith, omega arith))
      (λ t. let l : full ≤ n - start = ltb-false _ _ t in rw t (omega arith, omega arith, omega arith))

pub span : (n k r : ℕ) → k ≤ last_of n → r ≡ end_of n (full * k) → (full * k ≤ r) × (r ≤ n) × (r ≤ full * k + full)
span n k r h e = let w = ends-within n (full * k) (starts-within n k h) in (omega arith, omega arith, omega arith)

-- a list that is no longer than n is its first n
whole : (l : List ℕ) (n : ℕ) → length l ≤ n → take n l ≡ l
whole l n h =
    sym (append-nil (take n l)) ∙ ap (λ r. take n l ++ r) (sym (drop_of_length-le l {i = n} h)) ∙ take-append-drop n l

pub cut : (body : List ℕ) (k : ℕ) → k ≤ last_of (length body) →
    take (end_of (length body) (full * k) - full * k) (drop (full * k) body) ≡ body_at body k
unfolding body_at
cut body k h =
    let within : full * k ≤ length body = starts-within (length body) k h in
    by (ltb (length body - full * k) full)
    (λ t.
    let l : length body - full * k < full = ltb-true _ _ t in
    let e : length (drop (full * k) body) ≡ length body - full * k = length-drop (full * k) body in
    rw t (whole (drop (full * k) body) (length body - full * k) (omega arith) ∙ sym (whole (drop (full * k) body) full (omega arith))))
    (λ t. rw t (ap (λ n. take n (drop (full * k) body)) (let e : full * k + full - full * k ≡ full = omega arith in e)))

pub length-body : (body : List ℕ) (k : ℕ) → k ≤ last_of (length body) →
    length (body_at body k) ≡ end_of (length body) (full * k) - full * k
length-body body k h =
    let e = ends-within (length body) (full * k) (starts-within (length body) k h) in
    rw (← cut body k h) (length-take-le _ _ (rw length-drop (omega arith)))

pub joined : (h b out y z : List ℕ) → length h ≡ 8 → length out ≡ 8 + length b → y ≡ h → z ≡ b →
    put_mid 8 (length (y ++ drop 8 out) - 8) (y ++ drop 8 out) z ≡ h ++ b
joined h b out y z e l p q =
    let size : length (h ++ drop 8 out) - 8 ≡ length b = rw (length-append, length-drop) (omega arith) in
    let rest : length (drop 8 out) ≡ length b = rw length-drop (omega arith) in
    rw (p, q, take_at h (drop 8 out) 8 e, drop_at h (drop 8 out) 8 e, size, ← rest, drop-length (drop 8 out), append-nil)

pub length-section : (label : Label) (k last : ℕ) (body : List ℕ) → length (section_of label k last body) ≡ 8 + length body
unfolding section_of
length-section label k last body = length-append (header_of label k last (length body)) body

module _ (table n : ℕ) where
  -- a count is given where neither refusal is
  pub counted-known : (count : ℕ) → Ok count ≡ count_of table n → (¬ (table ≡ nrt_it)) × (n ≤ longest_body) × (count ≡ last_of n + 1)
  unfolding count_of
  counted-known count e =
      by (eqb table nrt_it)
      (λ t. let q : Ok count ≡ Err AskedForNrtIt = rw t at e in cc)
      (λ f.
      by (ltb longest_body n)
      (λ t. let q : Ok count ≡ Err WriterBodyTooLong = rw (f, t) at e in cc)
      (λ g. let q : Ok count ≡ Ok (last_of n + 1) = rw (f, g) at e in (eqb-false _ _ f, ltb-false _ _ g, cc)))

module _ (label : Label) (body out : List ℕ) (k : ℕ) where
  -- what is not counted is not written, by the same refusal
  pub uncounted-write : (r : Refusal) → Err r ≡ count_of label.table (length body) → write (Err r) out ≡ write_of label body k out
  unfolding count_of write_of
  uncounted-write r e =
      by (eqb label.table nrt_it)
      (λ t. let q : Err r ≡ Err AskedForNrtIt = rw t at e in rw (q, t))
      (λ f.
      by (ltb longest_body (length body))
      (λ t. let q : Err r ≡ Err WriterBodyTooLong = rw (f, t) at e in rw (q, f, t))
      (λ g. let q : Err r ≡ Ok (last_of (length body) + 1) = rw (f, g) at e in cc))

  module _ (other : ¬ (label.table ≡ nrt_it)) (fits : length body ≤ longest_body) where
    pub write-41 : 31 < label.version → write (Err WriterVersionAbove31) out ≡ write_of label body k out
    unfolding write_of
    write-41 h = rw (ne_eqb label.table nrt_it other, le-ltb longest_body (length body) fits, lt-ltb 31 label.version h)

    module _ (five : label.version ≤ 31) where
      pub write-42 : last_of (length body) < k → write (Err WriterKAboveLast) out ≡ write_of label body k out
      unfolding write_of
      write-42 h =
          rw (
            ne_eqb label.table nrt_it other,
            le-ltb longest_body (length body) fits,
            le-ltb 31 label.version five,
            lt-ltb (last_of (length body)) k h,
          )

module _ (label : Label) (body out : List ℕ) (k n : ℕ) (other : ¬ (label.table ≡ nrt_it)) (fits : length body ≤ longest_body) (five : label.version ≤ 31) (known : k ≤ last_of (length body)) (size : length (written label body k) ≡ n) where
  pub write-15 : length out < n → write (Err OutputTooSmall) out ≡ write_of label body k out
  unfolding write_of
  write-15 h = rw (ne_eqb label.table nrt_it other, le-ltb longest_body (length body) fits, le-ltb 31 label.version five, le-ltb (last_of (length body)) k known, size, lt-ltb (length out) n h)

  pub write_done : n ≤ length out → (y : List ℕ) → y ≡ written label body k →
      write (Ok n) (y ++ drop n out) ≡ write_of label body k out
  unfolding write_of
  write_done h y e = rw (ne_eqb label.table nrt_it other, le-ltb longest_body (length body) fits, le-ltb 31 label.version five, le-ltb (last_of (length body)) k known, size, le-ltb (length out) n h, e)
