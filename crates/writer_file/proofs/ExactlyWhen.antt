-- "Given exactly when": 59, 40, 41 and 15, in their order, and what is left where none of them is so (`specs/Theorems.antt` has the words).
--   feed_exactly, feed_none, feed_answered
--   fed_largest         the file has at most 16,418 bytes
use mathlib.Core.Path.{refl}
use mathlib.Core.List.{List}
use Prim.Native.Nat.{ℕ}
use native.Mathlib.Omega.{arith}
use lib.ListN.{length}
use Rattle.base.specs.Tables.{Agree}
use Rattle.base.proofs.Tables.{words, given, number-first, silent}
use Rattle.answers.proofs.Fills.{zero-exactly}
use Rattle.writer.specs.declared.Label.{Label}
use Rattle.writer_file.specs.Feeding.{feed_file, Feed, unfed, refuse, placed, feed_of}
use Rattle.answers.specs.Answers.{sized}
use Rattle.writer_file.specs.Theorems.{FedLargest, feed_table, FeedExactly, FeedNone, FeedAnswered}
use Rattle.writer_file.proofs.Sizes.{file-size, file-small}

-- the number of what a call leaves
abbrev code : Feed → ℕ
code f = sized f.said

module _ (label : Label) (body : List ℕ) where
  pub fed_largest : FedLargest label body
  fed_largest fits = rw (file-size label body fits) (file-small (length body) fits)

  module _ (out : List ℕ) where
    decided : Agree (unfed label body out) (feed_table label body out)
    decided = search words

    pub feed_exactly : FeedExactly label body out
    unfolding feed_of
    feed_exactly n p q =
        given (refuse out) code (λ r. refl) (unfed label body out) (placed (feed_file label body) out) (feed_table label body out) decided refl n (λ e. omega arith)

    pub feed_none : FeedNone label body out
    unfolding feed_of
    feed_none =
        rw (number-first (refuse out) code (λ r. refl) (unfed label body out) (placed (feed_file label body) out))
        (zero-exactly (unfed label body out) (feed_table label body out) decided (code (placed (feed_file label body) out)) (omega arith))

    pub feed_answered : FeedAnswered label body out
    unfolding feed_of
    feed_answered w = silent (refuse out) (unfed label body out) (placed (feed_file label body) out) (feed_table label body out) decided w
