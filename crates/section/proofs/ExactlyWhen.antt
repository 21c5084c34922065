-- "Given exactly when": that the reading of the payload `s` keeps to document 01's numbers 1 to 8 and to 46 (`specs/Theorems.antt` has the words).
--   refused_1 .. refused_8, refused_46       the number is given exactly when none before it is so and it is (`exactly`: for any number)
--   not_refused                  no number is given exactly when none is so
--   sound                        a header is read exactly when none is so and it is what the bytes say
--   refused_range                no other number is given
-- They are one law of tables (`Tables` of base): each test in the definition says what stands here, row by row in `decided`.
use mathlib.Core.Path.{◌≡◌, refl, sym, ap, subst, ◌∙◌}
use mathlib.Core.List.{List}
use mathlib.Core.Logic.Iff
use mathlib.Core.Logic.{◌↔◌, true-and, inl, inr, ⊎_elim}
use Prim.Native.Nat.{ℕ, ◌<◌, ◌≤◌}
use native.Mathlib.Omega.{arith}
use Rattle.base.specs.Tables.{None, said, Agree, Each}
use Rattle.base.proofs.Tables.{less, same, or-so, and_so, given, passed, silent, among}
use lib.Dec.{ltb, eqb}
use lib.ListN.{length}
use Rattle.key.specs.Key.{nrt_it}
use Rattle.section.specs.Section.{header_size, highest_length, highest_last, key_size, table_id, syntax_indicator, private_indicator, section_length, section_size, section_number, last_section_number, current_next}
use Rattle.section.specs.Section.{faults, header_of, read_of}
pub use Rattle.section.specs.Theorems.{PayloadShort, WrongIndicator, LengthOutOfRange, LongerThanPayload, ShorterThanPayload, NumberAboveLast, LastAbove15, NotCurrent, KeyShort, OwnNumber, table, NoneBefore}
use Rattle.section.specs.Theorems.{Refused1, Refused2, Refused3, Refused4, Refused5, Refused6, Refused7, Refused8, Refused46, NotRefused, SoundExactly, RefusedRange}
use Rattle.std.specs.Prelude.{Result, Ok, Err}
use Rattle.refusal.specs.Refusal.{number, number_of}
use Rattle.refusal.specs.declared.Refusal.{Refusal}
use Rattle.section.specs.declared.Header.{Header}

abbrev Own : Result Header Refusal → Type 0
Own (Ok h) = Unit {0}
Own (Err r) = OwnNumber (number r)

-- a section's own number is one of 1 to 46
pub own-bounds : (n : ℕ) → OwnNumber n → (1 ≤ n) × (n ≤ 46)
own-bounds n = ⊎_elim (λ w. (w.0, omega (arith, w.1))) (λ e. (omega arith, omega arith))

module _ (s : List ℕ) where
  pub decided : Agree (faults s) (table s)
  decided = (
    refl,
    less (length s) header_size,
    (
      refl,
      or-so (eqb (syntax_indicator s) 1) (eqb (private_indicator s) 0) (same (syntax_indicator s) 1) (same (private_indicator s) 0),
      (
        refl,
        or-so (ltb (section_length s) 5) (ltb highest_length (section_length s)) (less (section_length s) 5) (less highest_length (section_length s)),
        (
          refl,
          less (length s) (section_size s),
          (
            refl,
            less (section_size s) (length s),
            (
              refl,
              less (last_section_number s) (section_number s),
              (
                refl,
                less highest_last (last_section_number s),
                (
                  refl,
                  same (current_next s) 0,
                  (refl, and_so (eqb (table_id s) nrt_it) (ltb (length s) key_size) (same (table_id s) nrt_it) (less (length s) key_size), tt),
                ),
              ),
            ),
          ),
        ),
      ),
    ),
  )

  pub exactly : (n : ℕ) → 0 < n → (number_of (read_of s) ≡ n) ↔ (NoneBefore s n × said n (table s))
  unfolding read_of
  exactly n p = given Err number_of (λ r. refl) (faults s) (Ok (header_of s)) (table s) decided refl n (omega arith)

  pub refused_1 : Refused1 s
  refused_1 = Iff.trans (exactly 1 (omega arith)) true-and

  pub refused_2 : Refused2 s
  refused_2 = exactly 2 (omega arith)

  pub refused_3 : Refused3 s
  refused_3 = exactly 3 (omega arith)

  pub refused_4 : Refused4 s
  refused_4 = exactly 4 (omega arith)

  pub refused_5 : Refused5 s
  refused_5 = exactly 5 (omega arith)

  pub refused_6 : Refused6 s
  refused_6 = exactly 6 (omega arith)

  pub refused_7 : Refused7 s
  refused_7 = exactly 7 (omega arith)

  pub refused_8 : Refused8 s
  refused_8 = exactly 8 (omega arith)

  pub refused_46 : Refused46 s
  refused_46 = exactly 46 (omega arith)

  pub not_refused : NotRefused s
  unfolding read_of
  not_refused =
      Iff.trans
      (passed Err number_of (λ r. refl) (faults s) (Ok (header_of s)) (table s) decided 0 refl)
      (λ w. w.0, λ n. (n, refl))

  read_whole : None (table s) → read_of s ≡ Ok (header_of s)
  unfolding read_of
  read_whole = silent Err (faults s) (Ok (header_of s)) (table s) decided

  pub sound : SoundExactly s
  sound h = (
    λ e.
        let n : None (table s) = not_refused.0 (ap number_of e) in
        let q : Ok (header_of s) ≡ Ok h = sym (read_whole n) ∙ e in
        (n, cc),
    λ w. read_whole w.0 ∙ ap Ok (sym w.1),
  )

  own-rows : Each (λ r. OwnNumber (number r)) (faults s)
  own-rows =
      (inl (omega arith), (inl (omega arith), (inl (omega arith), (inl (omega arith), (inl (omega arith), (inl (omega arith), (inl (omega arith), (inl (omega arith), (inr refl, tt)))))))))

  pub refused_range : RefusedRange s
  unfolding read_of
  refused_range n e = subst Own e (among Err Own (faults s) (Ok (header_of s)) own-rows tt)
