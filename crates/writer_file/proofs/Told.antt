-- A host loses nothing by the answer in one number (`specs/Answer.antt` has the words).
--   file_comes_back, file_fills
--   feed-told        what feeding promised, told in this number
use mathlib.Core.Path.{◌≡◌, refl, ap, ◌∙◌}
use mathlib.Core.List.{List, [], ◌∷◌}
use Prim.Native.Nat.{ℕ, ◌^◌, ◌<◌, ◌≤◌}
use native.Mathlib.Omega.{arith}
use lib.Dec.{ltb, eqb}
use lib.ListN.{length}
use borrow.Author.Tests.{ltb-false}
use Rattle.base.specs.Choice.{Row, ◌if◌}
use Rattle.base.proofs.Cases.{by}
use Rattle.base.proofs.Tables.{among}
use Rattle.answers.specs.Answers.{out}
use Rattle.answers.proofs.Fills.{size_back, through, fills, refused-fills}
use Rattle.key.specs.Key.{nrt_it}
use Rattle.writer.specs.Writer.{longest_body}
use Rattle.writer.specs.declared.Label.{Label}
use Rattle.writer_file.specs.Feeding.{feed_file, Feed, feed, refuse, placed, feed_of}
use Rattle.writer_file.specs.Answer.{fed_in, feed_out, file_lent, FileComesBack, FileFills}
use Rattle.std.specs.Prelude.{Result, Ok, Err}
use Rattle.refusal.specs.Refusal.{refusal_of}
use Rattle.answers.specs.Answers.{sized}
use Rattle.refusal.specs.declared.Refusal.{Refusal}
use Rattle.refusal.specs.declared.Refusal.TheVariants.{WriterVersionAbove31, OutputTooSmall}
use Rattle.writer_file.proofs.ExactlyWhen.{fed_largest}

module _ (label : Label) (body old : List ℕ) where
  -- of a body that is not too long the file is below 65,536 bytes
  small : length body ≤ longest_body → length (feed_file label body) < 2 ^ 16
  small fits = let l = fed_largest label body fits in omega arith

  -- the rows that are looked at where the body is not too long
  abbrev after-40 : List Row
  after-40 = WriterVersionAbove31 if ltb 31 label.version ∷ OutputTooSmall if ltb (length old) (length (feed_file label body)) ∷ []

  pub file_comes_back : FileComesBack label body old
  unfolding file_lent feed_of
  file_comes_back =
      by (eqb label.table nrt_it) (λ t. rw t)
      (λ o.
      rw o
      (by (ltb longest_body (length body)) (λ t. rw t)
      (λ f.
      rw f
      (among (refuse old) (λ (w : Feed). fed_in (sized w.said) ≡ w.said) after-40 (placed (feed_file label body) old)
      (refl, (refl, tt))
      (size_back Ok (λ n. Err (refusal_of n)) (length (feed_file label body)) (small (ltb-false _ _ f)))))))

  pub file_fills : FileFills label body old
  unfolding file_lent feed_of
  file_fills =
      by (eqb label.table nrt_it) (λ t. rw t (refused-fills (feed_file label body) old 59 (omega arith) (omega arith)))
      (λ o.
      rw o
      (by (ltb longest_body (length body)) (λ t. rw t (refused-fills (feed_file label body) old 40 (omega arith) (omega arith)))
      (λ f.
      rw f
      (rw (through feed_out (refuse old) after-40 (placed (feed_file label body) old))
      (fills (feed_file label body) old after-40 (small (ltb-false _ _ f)))))))

pub feed-told : (label : Label) (body o o' : List ℕ) (r : Result ℕ Refusal) (code : ℕ)
    → feed r o' ≡ feed_of label body o → code ≡ sized r → out code o' ≡ file_lent label body o
unfolding file_lent
feed-told label body o o' r code e q = ap (λ n. out n o') q ∙ ap feed_out e
