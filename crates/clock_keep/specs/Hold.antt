-- The words of a record with one more held behind the others. Where 32 are held they stay as they were.
use Rattle.std.specs.Prelude.{ℕ, List, [], ◌∷◌, ◌++◌, leb, if◌then◌else◌}
use Rattle.clock_activation.specs.declared.Held.{Held}
use Rattle.clock_activation.specs.Limits.{most_held}
use Rattle.clock_record.specs.Words.{word_at, book_in, words_with}

unfoldable pub holding : ℕ → Held → List ℕ → List ℕ
holding states h w = if leb most_held (word_at w 2) then w else words_with (word_at w 0) states ((book_in w).held ++ (h ∷ []))
