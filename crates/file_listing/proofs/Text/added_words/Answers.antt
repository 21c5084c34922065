-- `Text::added_words` meets its promise.
use Rattle.file_listing.specs.Words.{long_decimal}
use Rattle.file_listing.proofs.Growing.{then}
use Rattle.file_listing.proofs.Lines.{not-added, are-added}
use Rattle.file_listing.proofs.Text.added_words.Goals as goal

pub returns-then-key-eq-NRT_IT : goal.returns-then-key-eq-NRT_IT
unfolding long_decimal
returns-then-key-eq-NRT_IT c = are-added _ _ _ c.if-key-eq-NRT_IT.true (then c.field.ensures (then c.word.ensures c.digits.ensures))

pub returns-else-key-eq-NRT_IT : goal.returns-else-key-eq-NRT_IT
returns-else-key-eq-NRT_IT c = not-added _ _ c.if-key-eq-NRT_IT.false
