-- The file, written section by section at the front of an output that has room for it.
--   Begun                        a table to be written, and room for its file
--   begins                       form and count
--   at-inside, rest-room, next_small, next-at, next-front   one section more
--   ends                         the whole file
use mathlib.Core.Path.{◌≡◌, refl, sym, ap, ◌∙◌}
use mathlib.Core.List.{List, [], ◌∷◌, ◌++◌}
use Prim.Native.Nat.{ℕ, ◌+◌, ◌-◌, ◌<◌, ◌≤◌}
use native.Mathlib.Omega.{arith}
use lib.ListN.{length, drop, set, length-append, length-set}
use lib.Seq.{drop-set-lt}
use borrow.Rule.Slice.PartMut.{mid_of, put_mid}
use Rattle.file_number.specs.Number.{spelt}
use Rattle.writer.specs.Writer.{longest_body, last_of, written}
use Rattle.writer.specs.declared.Label.{Label}
use Rattle.writer.proofs.Laws.{last-le}
use Rattle.writer_file.specs.Feeding.{feed_file}
use Rattle.writer_file.specs.Sizes.{size_at, entry_size, file_size, front_of}
use Rattle.writer_file.proofs.Laws.{lent-room, front-more}
use Rattle.writer_file.proofs.Sizes.{section-size, front-none, front-next, entry-room, file-front, file-size, file-small}

pub record Begun (label : Label) (body : List ℕ) (count : ℕ) (old : List ℕ) : Type 0 where
  pub fits : length body ≤ longest_body
  pub counted : count ≡ last_of (length body) + 1
  pub room : file_size (length body) ≤ length old

-- what lies past both bytes of the front is as it was
past-front : (old : List ℕ) (a b m : ℕ) → 2 ≤ m → drop m (set (set old 0 a) 1 b) ≡ drop m old
past-front old a b m h = drop-set-lt m (set old 0 a) 1 b (omega arith) ∙ drop-set-lt m old 0 a (omega arith)

both-set : (old : List ℕ) (a b : ℕ) → 2 ≤ length old → set (set old 0 a) 1 b ≡ a ∷ b ∷ drop 2 (set (set old 0 a) 1 b)
both-set [] a b h = absurd (omega arith)
both-set (x ∷ []) a b h = absurd (omega arith)
both-set (x ∷ y ∷ old) a b h = refl

module _ {label : Label} {body : List ℕ} {count : ℕ} {old : List ℕ} (o : Begun label body count old) where
  abbrev front : ℕ → List ℕ
  front k = front_of label body count k

  -- the output with form and count
  abbrev base : List ℕ
  base = set (set old 0 1) 1 count

  base-length : length base ≡ length old
  base-length = length-set (set old 0 1) 1 count ∙ length-set old 0 1

  -- the first k sections stand as well
  abbrev Written : ℕ → List ℕ → Type 0
  Written k out = out ≡ front k ++ drop (length (front k)) base

  few : count < 128
  few =
      let l : last_of (length body) ≤ 15 = last-le (length body) o.fits in
      let e : count ≡ last_of (length body) + 1 = o.counted in
      omega arith

  pub begins-at : 2 ≡ length (front 0)
  begins-at = sym (ap length (front-none label body count few))

  pub begins : Written 0 base
  begins =
      let l : file_size (length body) ≤ length old = o.room in
      let e : front 0 ≡ 1 ∷ count ∷ [] = front-none label body count few in
      rw e (both-set old 1 count (omega arith))

  module _ {k at : ℕ} {out : List ℕ} (l : k < count) (place : at ≡ length (front k)) (so : Written k out) where
    known : k ≤ last_of (length body)
    known = let e : count ≡ last_of (length body) + 1 = o.counted in omega arith

    abbrev one : List ℕ
    one = spelt (size_at (length body) k) ++ written label body k

    one_size : length one ≡ entry_size (size_at (length body) k)
    one_size = length-append (spelt (size_at (length body) k)) (written label body k) ∙ rw (section-size label body k known)

    room : length (front k) + length one ≤ length base
    room =
        let e : length one ≡ entry_size (size_at (length body) k) = one_size in
        let r : length (front k) + entry_size (size_at (length body) k) ≤ file_size (length body) = entry-room label body count few k known in
        let w : file_size (length body) ≤ length old = o.room in
        let b : length base ≡ length old = base-length in
        omega arith

    pub at-inside : length out ≡ length base → at + entry_size (size_at (length body) k) ≤ length out
    at-inside e =
        let s : length one ≡ entry_size (size_at (length body) k) = one_size in
        let r : length (front k) + length one ≤ length base = room in
        omega arith

    pub next_small : {more : ℕ} → more ≡ entry_size (size_at (length body) k) → at + more ≤ 16418
    next_small e =
        let r : length (front k) + entry_size (size_at (length body) k) ≤ file_size (length body) = entry-room label body count few k known in
        let w : file_size (length body) ≤ 16418 = file-small (length body) o.fits in
        omega arith

    pub rest-room : entry_size (size_at (length body) k) ≤ length (mid_of at (length out - at) out)
    rest-room = rw one_size at (lent-room (front k) one base out [] at place room so)

    pub next-at : {more : ℕ} → more ≡ entry_size (size_at (length body) k) → at + more ≡ length (front (k + 1))
    next-at e =
        let s : length one ≡ entry_size (size_at (length body) k) = one_size in
        let n : length (front (k + 1)) ≡ length (front k) + length one =
        ap length (front-next label body count k known) ∙ length-append (front k) one in
        omega arith

    pub next-front : {back : List ℕ} → back ≡ one ++ drop (entry_size (size_at (length body) k)) (mid_of at (length out - at) out) →
        Written (k + 1) (put_mid at (length out - at) out back)
    next-front {back} e =
        front-more (front k) one base out back at place room so
        (e ∙ ap (λ m. one ++ drop m (mid_of at (length out - at) out)) (sym one_size))
        ∙ ap (λ f. f ++ drop (length f) base) (sym (front-next label body count k known))

  pub ends : {k : ℕ} {out : List ℕ} → k ≡ count → Written k out →
      out ≡ feed_file label body ++ drop (file_size (length body)) old
  ends {k} {out} e so =
      let f : front k ≡ feed_file label body =
      ap front (e ∙ o.counted) ∙ ap (λ c. front_of label body c (last_of (length body) + 1)) o.counted ∙ sym (file-front label body) in
      let s : length (feed_file label body) ≡ file_size (length body) = file-size label body o.fits in
      so
      ∙ ap (λ l. l ++ drop (length l) base) f
      ∙ ap (λ m. feed_file label body ++ drop m base) s
      ∙ ap (λ l. feed_file label body ++ l) (past-front old 1 count (file_size (length body)) (omega arith))
