-- Each way out of a call, and what leads to it.
--   uncounted-feed, feed-41, feed-15, feed-done
use mathlib.Core.Path.{◌≡◌}
use mathlib.Core.List.{List, ◌++◌}
use Prim.Native.Nat.{ℕ, ◌+◌, ◌<◌, ◌≤◌}
use lib.Dec.{ltb, eqb}
use lib.ListN.{length, drop}
use borrow.Author.Tests.{lt-ltb, le-ltb, ne_eqb}
use Rattle.base.proofs.Cases.{by}
use Rattle.key.specs.Key.{nrt_it}
use Rattle.writer.specs.Writer.{longest_body, last_of, count_of}
use Rattle.writer.specs.declared.Label.{Label}
use Rattle.writer_file.specs.Feeding.{feed_file, feed, feed_of}
use Rattle.writer_file.specs.Sizes.{file_size}
use Rattle.std.specs.Prelude.{Ok, Err}
use Rattle.refusal.specs.declared.Refusal.{Refusal}
use Rattle.refusal.specs.declared.Refusal.TheVariants.{AskedForNrtIt, WriterBodyTooLong, WriterVersionAbove31, OutputTooSmall}
use Rattle.writer_file.proofs.Sizes.{file-size}

module _ (label : Label) (body out : List ℕ) where
  -- what is not counted is not fed, by the same refusal
  pub uncounted-feed : (r : Refusal) → Err r ≡ count_of label.table (length body) → feed (Err r) out ≡ feed_of label body out
  unfolding count_of feed_of
  uncounted-feed r e =
      by (eqb label.table nrt_it)
      (λ t. let q : Err r ≡ Err AskedForNrtIt = rw t at e in rw (q, t))
      (λ f.
      by (ltb longest_body (length body))
      (λ t. let q : Err r ≡ Err WriterBodyTooLong = rw (f, t) at e in rw (q, f, t))
      (λ g. let q : Err r ≡ Ok (last_of (length body) + 1) = rw (f, g) at e in cc))

  module _ (other : ¬ (label.table ≡ nrt_it)) (fits : length body ≤ longest_body) where
    pub feed-41 : 31 < label.version → feed (Err WriterVersionAbove31) out ≡ feed_of label body out
    unfolding feed_of
    feed-41 v = rw (ne_eqb label.table nrt_it other, le-ltb longest_body (length body) fits, lt-ltb 31 label.version v)

    module _ (five : label.version ≤ 31) {size : ℕ} (s : size ≡ file_size (length body)) where
      pub feed-15 : length out < size → feed (Err OutputTooSmall) out ≡ feed_of label body out
      unfolding feed_of
      feed-15 l =
          rw (
            ne_eqb label.table nrt_it other,
            le-ltb longest_body (length body) fits,
            le-ltb 31 label.version five,
            file-size label body fits,
            ← s,
            lt-ltb (length out) size l,
          )

      pub feed-done : size ≤ length out → {after : List ℕ} → after ≡ feed_file label body ++ drop (file_size (length body)) out →
          feed (Ok size) after ≡ feed_of label body out
      unfolding feed_of
      feed-done l e =
          rw (
            ne_eqb label.table nrt_it other,
            le-ltb longest_body (length body) fits,
            le-ltb 31 label.version five,
            file-size label body fits,
            e,
            ← s,
            le-ltb (length out) size l,
          )
