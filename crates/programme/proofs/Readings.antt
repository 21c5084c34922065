-- Each way out of a reading.
--   read_refused, read-other, read_short, read_whole
--   listed     what is known of a payload whose reading is not refused
use mathlib.Core.Path.{◌≡◌, refl, ◌∙◌}
use mathlib.Core.List.{List, [], ◌∷◌}
use Prim.Native.Nat.{ℕ, ◌<◌, ◌≤◌}
use native.Mathlib.Omega.{arith}
use lib.Dec.{ltb, eqb}
use lib.ListN.{length}
use borrow.Author.Tests.{lt-ltb, le-ltb, eq-eqb, ne_eqb, eqb-true, eqb-false, ltb-true, ltb-false}
use Rattle.base.specs.Choice.{Row, ◌if◌}
use Rattle.base.proofs.Cases.{by}
use Rattle.std.specs.Prelude.{Result, Ok, Err}
use Rattle.refusal.specs.declared.Refusal.{Refusal}
use Rattle.refusal.specs.declared.Refusal.TheVariants.{ProgrammePassesEnd, ProgrammeOtherTable}
use Rattle.section.specs.Section as section
use Rattle.section.specs.declared.Header.{Header}
use Rattle.section.proofs.Laws.{sound-facts}
use Rattle.programme.specs.Table.{service_id_end, time_span_start_end, time_span_length_end, first_item_at}
use Rattle.programme.specs.Reading.{cut, read_of, programme_of}
use Rattle.programme.specs.declared.Programme.{Programme}
use Rattle.programme.proofs.Rows.{either_way, one_number, no_row}

-- the rows of the fields
abbrev fields : List ℕ → List Row
fields s = ProgrammePassesEnd if cut s service_id_end ∷ ProgrammePassesEnd if cut s time_span_start_end ∷ ProgrammePassesEnd if cut s time_span_length_end ∷ ProgrammePassesEnd if cut s first_item_at ∷ []

module _ (s : List ℕ) where
  pub read_refused : (n : Refusal) → section.read_of s ≡ Err n → Err n ≡ read_of s
  unfolding read_of
  read_refused n e = rw e

  module _ (h : Header) (e : section.read_of s ≡ Ok h) where
    pub read-other : (h.key.table ≡ 0xDF → ⊥) → Err ProgrammeOtherTable ≡ read_of s
    unfolding read_of
    read-other d = rw (e, ne_eqb h.key.table 0xDF d)

    module _ (t : h.key.table ≡ 0xDF) where
      pub read_short : length s < 17 → Err ProgrammePassesEnd ≡ read_of s
      unfolding read_of
      read_short l =
          rw (e, eq-eqb h.key.table 0xDF t)
          (one_number Err ProgrammePassesEnd (Ok (programme_of s)) (fields s) (refl, (refl, (refl, (refl, tt))))
          (either_way (cut s 10) _ (either_way (cut s 14) _ (either_way (cut s 16) _ (rw (lt-ltb (length s) 17 l))))))

      pub read_whole : 17 ≤ length s → Ok (programme_of s) ≡ read_of s
      unfolding read_of
      read_whole l =
          rw (e, eq-eqb h.key.table 0xDF t)
          (no_row Err ProgrammePassesEnd (Ok (programme_of s)) (fields s)
          (rw (
            le-ltb (length s) 10 (omega arith),
            le-ltb (length s) 14 (omega arith),
            le-ltb (length s) 16 (omega arith),
            le-ltb (length s) 17 l,
          )))

-- what is known of a payload whose reading is not refused
pub record Listed (s : List ℕ) (p : Programme) : Type 0 where
  pub header : Header
  pub sound : section.read_of s ≡ Ok header
  pub table : header.key.table ≡ 0xDF
  pub long : 17 ≤ length s
  pub small : length s ≤ 1024
  pub says : p ≡ programme_of s

apart : {P : Type 0} (n : Refusal) (p : Programme) → Err n ≡ Ok p → P
apart n p e = absurd (let z : ◌≡◌ {A = ℕ} 0 1 = cc in omega arith)

pub listed : (s : List ℕ) (p : Programme) → read_of s ≡ Ok p → Listed s p
listed s p e = go (section.read_of s) refl
  where
    go : (r : Result Header Refusal) → section.read_of s ≡ r → Listed s p
    go (Err n) q = apart n p (read_refused s n q ∙ e)
    go (Ok h) q =
        by (eqb h.key.table 0xDF)
        (λ t.
        let u : h.key.table ≡ 0xDF = eqb-true _ _ t in
        by (ltb (length s) 17)
        (λ l. apart ProgrammePassesEnd p (read_short s h q u (ltb-true _ _ l) ∙ e))
        (λ l.
        let long : 17 ≤ length s = ltb-false _ _ l in
        let w : Ok (programme_of s) ≡ Ok p = read_whole s h q u long ∙ e in
        record { header = h; sound = q; table = u; long = long; small = (sound-facts s h q).most; says = cc }))
        (λ f. apart ProgrammeOtherTable p (read-other s h q (eqb-false _ _ f) ∙ e))
