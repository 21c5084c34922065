-- What is answered of a table that is kept.
--   kept-copied      a held section is copied out byte for byte
--   kept-16, kept-15   one that is not held is refused 16, one for which the output is too small 15
--   kept_whole       the table is called complete when every number from 0 to its last is held, and else incomplete
--   kept-missing     .. and else the lowest that is not held is missing
--   file-held, kept-file   its file is the file of the sections that are kept
--   kept-saved       .. which is saved, where there is room for it
--   unheld-copied, unheld-whole      of a table that is not held nothing is answered but 14
--   refused-14, unheld-reply         so of every question
--   held-answer                      what a question about a held table is answered
use Rattle.std.specs.Prelude.{if◌then◌else◌, Ok, Err, Some, None, Option}
use mathlib.Core.Path.{◌≡◌, refl, ap, ◌∙◌}
use mathlib.Core.Bool.{Bool, true, false, not}
use mathlib.Core.List.{List, ◌++◌}
use Prim.Native.Nat.{ℕ, ◌+◌, ◌<◌, ◌≤◌}
use native.Mathlib.Omega.{arith}
use lib.Dec.{eqb, ltb}
use lib.ListN.{length, drop, get_or-eq_default}
use borrow.Author.Tests.{eq-eqb, ne_eqb, le-ltb, lt-ltb, ltb-true, ltb-false}
use Rattle.refusal.specs.Refusal.{number_of}
use Rattle.refusal.specs.declared.Refusal.TheVariants.{TableNotHeld, OutputTooSmall, SectionNotHeld}
use Rattle.base.specs.Choice.{◌if◌, first}
use Rattle.base.specs.Below.{every, lowest}
use Rattle.base.proofs.Cases.{by}
use Rattle.base.proofs.Tables.{among}
use Rattle.berth.specs.Berth.{sections, places, store_size, berth_size, standing}
use Rattle.shelf.specs.Record.{place_at, length_at, holds, place_of}
use Rattle.key.specs.declared.Key.{Key}
use Rattle.shelf.proofs.Words.{sound-place}
use Rattle.shelf_ask.specs.Ask.{complete, lowest_missing, copy, asked, uncopied, copy_from, copy_of, whole_of, missing_of}
use Rattle.shelf_ask.proofs.ExactlyWhen.{whole-none}
use Rattle.file.specs.Layout.{file_of, chosen, largest_file}
use Rattle.file_laws.proofs.Chosen.{chosen-as}
use Rattle.shelf_save.specs.Save.{save, refuse, unsaved, written, held_below, place_file, saved_file, save_of}
use Rattle.shelf_save.proofs.ExactlyWhen.{saved-largest}
use Rattle.shelf_laws.specs.State.{State, copy_out, whole_in, missing_in, save_out}
use Rattle.shelf_laws.specs.History.{Question, Reply, copied, wholly, lacking, saved, about, reply}
use Rattle.shelf_laws.proofs.Truth.{every-same, lowest-same}
use Rattle.shelf_laws.proofs.Kept.{Good, Table, Kept, kept-key, held_table}
use Rattle.shelf_laws.proofs.Places.{is-taken, held_at}

module _ (s : State) (key : Key) where
  pub file-held : saved_file s.shelf s.store key
      ≡ file_of (chosen sections (held_table s (place_of s.shelf key)).has (held_table s (place_of s.shelf key)).bytes)
  unfolding saved_file place_file held_below
  file-held = refl

  pub kept-file : {p : ℕ} {t : Table} → Kept s key p t → saved_file s.shelf s.store key ≡ file_of (chosen sections t.has t.bytes)
  kept-file {p} {t} k =
      file-held
      ∙ ap (λ q. file_of (chosen sections (held_table s q).has (held_table s q).bytes)) k.place
      ∙ ap file_of
      (chosen-as sections (held_table s p).has t.has (held_table s p).bytes t.bytes k.numbers
      (λ n i h. ap (standing s.store p n) (k.lengths n i h) ∙ k.stands n i h))

module _ (s : State) (g : Good s) (key : Key) where
  module _ {p : ℕ} {t : Table} (k : Kept s key p t) where
    not-14 : eqb p places ≡ false
    not-14 = let i : p < places = k.taken in ne_eqb p places (λ e. omega arith)

    pub kept-last : t.last ≤ 15
    kept-last =
        rw k.last at (sound-place s.shelf g.unspoiled p k.taken (is-taken (place_at s.shelf p) key (kept-key s k))).last

    pub kept-copied : (n : ℕ) → n < sections → t.has n ≡ true → (out : List ℕ) → length (t.bytes n) ≤ length out
        → copy_out s key n out ≡ copy (Ok (length (t.bytes n))) (t.bytes n ++ drop (length (t.bytes n)) out)
    unfolding copy_of
    kept-copied n i y out h =
        rw (
          eq-eqb (length s.store) store_size g.lent,
          g.unspoiled,
          k.place,
          not-14,
          k.numbers n i ∙ y,
          k.lengths n i y,
          le-ltb (length out) (length (t.bytes n)) h,
          k.stands n i y,
        )

    pub kept-16 : (n : ℕ) → holds (place_at s.shelf p) n ≡ false → (out : List ℕ) → copy_out s key n out ≡ copy (Err SectionNotHeld) out
    unfolding copy_of
    kept-16 n y out = rw (eq-eqb (length s.store) store_size g.lent, g.unspoiled, k.place, not-14, y)

    pub kept-15 : (n : ℕ) → n < sections → t.has n ≡ true → (out : List ℕ) → length out < length (t.bytes n) → copy_out s key n out ≡ copy (Err OutputTooSmall) out
    unfolding copy_of
    kept-15 n i y out h =
        rw (eq-eqb (length s.store) store_size g.lent, g.unspoiled, k.place, not-14, k.numbers n i ∙ y, k.lengths n i y, lt-ltb (length out) (length (t.bytes n)) h)

    pub kept_whole : whole_in s key ≡ Ok (every (t.last + 1) t.has)
    unfolding whole_of complete
    kept_whole =
        let b : t.last ≤ 15 = kept-last in
        rw (
          eq-eqb (length s.store) store_size g.lent,
          g.unspoiled,
          k.place,
          not-14,
          k.last,
          every-same (holds (place_at s.shelf p)) t.has (t.last + 1) (λ n i. k.numbers n (omega arith)),
        )

    pub kept-missing : missing_in s key
        ≡ Ok (if every (t.last + 1) t.has then None else Some (lowest (t.last + 1) (λ n. not (t.has n))))
    unfolding missing_of complete lowest_missing
    kept-missing =
        let b : t.last ≤ 15 = kept-last in
        rw (
          eq-eqb (length s.store) store_size g.lent,
          g.unspoiled,
          k.place,
          not-14,
          k.last,
          every-same (holds (place_at s.shelf p)) t.has (t.last + 1) (λ n i. k.numbers n (omega arith)),
          lowest-same (λ n. not (holds (place_at s.shelf p) n)) (λ n. not (t.has n)) (t.last + 1) (λ n i. ap not (k.numbers n (omega arith))),
        )

    pub kept-saved : (out : List ℕ) → save_out s key out
        ≡ first (refuse out) (unsaved (file_of (chosen sections t.has t.bytes)) out) (written (file_of (chosen sections t.has t.bytes)) out)
    unfolding save_of
    kept-saved out = rw (eq-eqb (length s.store) store_size g.lent, g.unspoiled, k.place, not-14, kept-file s key k)

  -- a number past the sixteenth is not held
  pub above-16 : (p n : ℕ) → p < places → sections ≤ n → holds (place_at s.shelf p) n ≡ false
  above-16 p n i h =
      let e : length (place_at s.shelf p).lengths ≡ 16 = g.formed.sixteen p i in
      ap (λ m. not (eqb m 0)) (get_or-eq_default (place_at s.shelf p).lengths 0 (omega arith))

  module _ (e : place_of s.shelf key ≡ places) where
    pub unheld-copied : (n : ℕ) (out : List ℕ) → copy_out s key n out ≡ copy (Err TableNotHeld) out
    unfolding copy_of
    unheld-copied n out = rw (eq-eqb (length s.store) store_size g.lent, g.unspoiled, e)

    pub unheld-whole : whole_in s key ≡ Err TableNotHeld
    unfolding whole_of
    unheld-whole = rw (eq-eqb (length s.store) store_size g.lent, g.unspoiled, e)

-- what is so of every answer to a question about a held table
abbrev pub Answers : (Reply → Type 0) → Question → Type 0
Answers P (Question.copy key n out) =
    P (copied (copy (Err SectionNotHeld) out))
    × P (copied (copy (Err OutputTooSmall) out))
    × ((n : ℕ) → n < 65536 → (bytes : List ℕ) → P (copied (copy (Ok n) bytes)))
Answers P (Question.whole key) = (whole : Bool) → P (wholly (Ok whole))
Answers P (Question.missing key) = (lowest : Option ℕ) → P (lacking (Ok lowest))
Answers P (Question.save key out) =
    P (saved (save (Err OutputTooSmall) out)) × ((n : ℕ) → n < 65536 → (bytes : List ℕ) → P (saved (save (Ok n) bytes)))

-- the refusal of a question by 14
abbrev pub refused-14 : Question → Reply
refused-14 (Question.copy key n out) = copied (copy (Err TableNotHeld) out)
refused-14 (Question.whole key) = wholly (Err TableNotHeld)
refused-14 (Question.missing key) = lacking (Err TableNotHeld)
refused-14 (Question.save key out) = saved (save (Err TableNotHeld) out)

module _ (s : State) (g : Good s) where
  pub unheld-reply : (q : Question) → place_of s.shelf (about q) ≡ places → reply s q ≡ refused-14 q
  unfolding copy_of whole_of missing_of save_of
  unheld-reply (Question.copy key n out) e = rw (eq-eqb (length s.store) store_size g.lent, g.unspoiled, e)
  unheld-reply (Question.whole key) e = rw (eq-eqb (length s.store) store_size g.lent, g.unspoiled, e)
  unheld-reply (Question.missing key) e = rw (eq-eqb (length s.store) store_size g.lent, g.unspoiled, e)
  unheld-reply (Question.save key out) e = rw (eq-eqb (length s.store) store_size g.lent, g.unspoiled, e)

  module _ (key : Key) (i : place_of s.shelf key < places) where
    taken : eqb (place_of s.shelf key) places ≡ false
    taken = ne_eqb (place_of s.shelf key) places (λ e. omega arith)

    -- a held length, and a file, is below 65,536
    pub length_most : (n : ℕ) → length_at (asked s.shelf s.store key) n < 65536
    length_most n =
        by (ltb n sections)
        (λ t.
        let sound = sound-place s.shelf g.unspoiled (place_of s.shelf key) i (is-taken (asked s.shelf s.store key) key (held_at s.shelf key i)) in
        let m : length_at (asked s.shelf s.store key) n ≤ berth_size = sound.most n (ltb-true _ _ t) in
        omega arith)
        (λ f.
        let e : length (asked s.shelf s.store key).lengths ≡ 16 = g.formed.sixteen (place_of s.shelf key) i in
        let h : 16 ≤ n = ltb-false _ _ f in
        let z : length_at (asked s.shelf s.store key) n ≡ 0 = get_or-eq_default (asked s.shelf s.store key).lengths 0 (omega arith) in
        omega arith)

    whole-0 : number_of (whole_in s key) ≡ 0
    unfolding whole_of
    whole-0 = rw (eq-eqb (length s.store) store_size g.lent, g.unspoiled, taken)

    pub file-most : length (saved_file s.shelf s.store key) < 65536
    file-most =
        let m : length (saved_file s.shelf s.store key) ≤ largest_file = saved-largest s.shelf s.store key ((whole-none s.shelf s.store key).0 whole-0) in
        omega arith

  -- a question about a held table is answered, or refused 16 or 15
  pub held-answer : (P : Reply → Type 0) (q : Question) → place_of s.shelf (about q) < places → Answers P q → P (reply s q)
  unfolding copy_of whole_of missing_of save_of
  held-answer P (Question.copy key n out) i a =
      rw (eq-eqb (length s.store) store_size g.lent, g.unspoiled, taken key i)
      (among (λ r. copy (Err r) out) (λ c. P (copied c))
      (uncopied (asked s.shelf s.store key) n out) (copy_from (asked s.shelf s.store key) s.store (place_of s.shelf key) n out)
      (a.0, (a.1, tt)) (a.2 (length_at (asked s.shelf s.store key) n) (length_most key i n) _))
  held-answer P (Question.whole key) i a =
      rw (eq-eqb (length s.store) store_size g.lent, g.unspoiled, taken key i) (a (complete (asked s.shelf s.store key)))
  held-answer P (Question.missing key) i a =
      rw (eq-eqb (length s.store) store_size g.lent, g.unspoiled, taken key i)
      (a (if complete (asked s.shelf s.store key) then None else Some (lowest_missing (asked s.shelf s.store key))))
  held-answer P (Question.save key out) i a =
      rw (eq-eqb (length s.store) store_size g.lent, g.unspoiled, taken key i)
      (by (ltb (length out) (length (saved_file s.shelf s.store key)))
      (λ b. rw b a.0)
      (λ b. rw b (a.1 (length (saved_file s.shelf s.store key)) (file-most key i) _)))
