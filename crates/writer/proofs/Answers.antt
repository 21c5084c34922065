-- A host loses nothing by the writer's answers in one number (`specs/Answer.antt` has the words).
--   count_comes_back, count_accepted    of how many sections there are
--   section_comes_back, section_fills   of a section
--   count-told, write-told              what the writer promised, told in these numbers
use mathlib.Core.Path.{◌≡◌, refl, ap, ◌∙◌}
use mathlib.Core.List.{List}
use Prim.Native.Nat.{ℕ, ◌+◌, ◌*◌, ◌%◌, ◌^◌, ◌≤◌}
use native.Mathlib.Omega.{arith}
use lib.ListN.{length, take, drop, length-append, length-take}
use borrow.Author.Tests.{eq-eqb}
use Rattle.base.proofs.Tables.{among}
use Rattle.answers.specs.Answers.{out, refusal_in, sized}
use Rattle.answers.proofs.Fills.{size_back, through, fills}
use Rattle.writer.specs.Writer.{full, last_of, body_at, section_of, written, uncounted, count_of, Write, write, unwritten, refuse, placed, write_of}
use Rattle.writer.specs.Answer.{counted_code, counted_in, count_lent, written_in, write_out, section_lent, CountComesBack, CountAccepted, SectionComesBack, SectionFills}
use Rattle.std.specs.Prelude.{Result, Ok, Err}
use Rattle.refusal.specs.declared.Refusal.{Refusal}
use Rattle.refusal.specs.Refusal.{refusal_of}
use Rattle.writer.specs.declared.Label.{Label}

module _ (table n : ℕ) where
  pub count_comes_back : CountComesBack table n
  unfolding count_lent count_of
  count_comes_back =
      among Err (λ c. counted_in (counted_code c) ≡ c) (uncounted table n) (Ok (last_of n + 1)) (refl, (refl, tt))
      (rw (eq-eqb ((last_of n + 1) * 2 ^ 8 % 2 ^ 8) 0 (omega arith)) (ap Ok (omega arith)))

  pub count_accepted : CountAccepted table n
  unfolding count_lent count_of
  count_accepted = (
    among Err (λ c. refusal_in (counted_code c) ≡ 0 → c ≡ Ok (last_of n + 1)) (uncounted table n) (Ok (last_of n + 1))
        (λ z. absurd (omega arith), (λ z. absurd (omega arith), tt))
        (λ _. refl),
    λ e. rw e (omega arith),
  )

module _ (label : Label) (body : List ℕ) (k : ℕ) (old : List ℕ) where
  -- no section is longer than 1,024 bytes
  written-short : length (written label body k) ≤ 1024
  unfolding written section_of body_at
  written-short =
      let l : length (take full (drop (full * k) body)) ≤ full = rw length-take (omega arith) in
      simp length-append (omega arith)

  pub section_comes_back : SectionComesBack label body k old
  unfolding section_lent write_of
  section_comes_back =
      let short = written-short in
      among (refuse old) (λ (w : Write). written_in (sized w.said) ≡ w.said) (unwritten label body k old)
      (placed (written label body k) old)
      (refl, (refl, (refl, (refl, (refl, tt)))))
      (size_back Ok (λ n. Err (refusal_of n)) (length (written label body k)) (omega arith))

  pub section_fills : SectionFills label body k old
  unfolding section_lent write_of
  section_fills =
      let short = written-short in
      rw (through write_out (refuse old) (unwritten label body k old) (placed (written label body k) old))
      (fills (written label body k) old (unwritten label body k old) (omega arith))

pub count-told : (table n : ℕ) (r : Result ℕ Refusal) (code : ℕ) → r ≡ count_of table n → code ≡ counted_code r → code ≡ count_lent table n
unfolding count_lent
count-told table n r code e q = q ∙ ap counted_code e

pub write-told : (label : Label) (body : List ℕ) (k : ℕ) (o o' : List ℕ) (r : Result ℕ Refusal) (code : ℕ)
    → write r o' ≡ write_of label body k o → code ≡ sized r → out code o' ≡ section_lent label body k o
unfolding section_lent
write-told label body k o o' r code e q = ap (λ n. out n o') q ∙ ap write_out e
