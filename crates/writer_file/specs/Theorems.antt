-- What is proved of feeding, in words: each is a theorem of `proofs/` by the same name in small letters.
use Rattle.std.specs.Prelude.{ℕ, ◌^◌, ◌<◌, ◌≤◌, ◌≡◌, List, [], ◌∷◌, ◌↔◌, length, Result}
use Rattle.base.specs.Tables.{Rule, ◌says◌, None, above, said}
use Rattle.answers.specs.Answers.{refusal_in, sized}
use Rattle.file.specs.Layout.{largest_file}
use Rattle.key.specs.Key.{nrt_it}
use Rattle.writer.specs.Writer.{longest_body}
use Rattle.writer.specs.declared.Label.{Label}
use Rattle.writer_file.specs.Feeding.{feed_file, feed, placed, feed_of}
use Rattle.refusal.specs.declared.Refusal.{Refusal}

module _ (label : Label) (body : List ℕ) where
  -- the file has at most 16,418 bytes
  abbrev pub FedLargest : Type 0
  FedLargest = length body ≤ longest_body → length (feed_file label body) ≤ largest_file

  module _ (out : List ℕ) where
    -- 59, 40, 41 and 15, in their order
    abbrev pub feed_table : List Rule
    feed_table =
        59 says (label.table ≡ nrt_it)
        ∷ 40 says (longest_body < length body)
        ∷ 41 says (31 < label.version)
        ∷ 15 says (length out < length (feed_file label body))
        ∷ []

    -- a number is given exactly when its words are so and those of none before it
    abbrev pub FeedExactly : Type 0
    FeedExactly =
        (n : ℕ) → 0 < n → n < 2 ^ 8
        → (sized (feed_of label body out).said ≡ n) ↔ (None (above n feed_table) × Rattle.base.specs.Tables.said n feed_table)

    -- none is given exactly when none is so
    abbrev pub FeedNone : Type 0
    FeedNone = (refusal_in (sized (feed_of label body out).said) ≡ 0) ↔ None feed_table

    -- and then the file stands at the front of the output, and what lies past it is as it was
    abbrev pub FeedAnswered : Type 0
    FeedAnswered = None feed_table → feed_of label body out ≡ placed (feed_file label body) out

    -- two answers, with the outputs that they leave, are equal
    abbrev pub FeedUnique : Type 0
    FeedUnique =
        (x y : Result ℕ Refusal) (out' out'' : List ℕ)
        → feed x out' ≡ feed_of label body out → feed y out'' ≡ feed_of label body out → feed x out' ≡ feed y out''
