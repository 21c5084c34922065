-- The file of the table that carries a body, for the bench's program: the sections of document 02, request 1, in the layout of
-- document 01, "The shelf file". The refusals are the writer's, without a k: 59, 40, 41 and 15.
use Rattle.std.specs.Prelude.{ℕ, zero, suc, ◌+◌, List, [], ◌∷◌, ◌++◌, ltb, eqb, length, drop, Result, Ok, Err}
use Rattle.base.specs.Choice.{Row, ◌if◌, first}
use Rattle.file.specs.Layout.{file_of}
use Rattle.key.specs.Key.{nrt_it}
use Rattle.writer.specs.Writer.{longest_body, last_of, written}
use Rattle.writer.specs.declared.Label.{Label}
use Rattle.refusal.specs.declared.Refusal.{Refusal}
use Rattle.refusal.specs.declared.Refusal.TheVariants.{AskedForNrtIt, WriterBodyTooLong, WriterVersionAbove31, OutputTooSmall}

-- sections 0 to n - 1 of the table that carries a body
unfoldable pub sections_below : Label → List ℕ → ℕ → List (List ℕ)
sections_below label body zero = []
sections_below label body (suc n) = sections_below label body n ++ (written label body n ∷ [])

-- all of them
abbrev pub sections_of : Label → List ℕ → List (List ℕ)
sections_of label body = sections_below label body (last_of (length body) + 1)

-- their file
unfoldable pub feed_file : Label → List ℕ → List ℕ
feed_file label body = file_of (sections_of label body)

-- what a call leaves: the answer and the output
pub record Feed : Type 0 where
  pub said : Result ℕ Refusal
  pub out : List ℕ

abbrev pub feed : Result ℕ Refusal → List ℕ → Feed
feed said out = record { said = said; out = out }

-- order: 59, 40, 41, then 15
abbrev pub unfed : Label → List ℕ → List ℕ → List Row
unfed label body out =
    AskedForNrtIt if eqb label.table nrt_it
    ∷ WriterBodyTooLong if ltb longest_body (length body)
    ∷ WriterVersionAbove31 if ltb 31 label.version
    ∷ OutputTooSmall if ltb (length out) (length (feed_file label body))
    ∷ []

-- a refused call leaves the output as it was
abbrev pub refuse : List ℕ → Refusal → Feed
refuse out r = feed (Err r) out

-- a file at the front of the output; bytes past it stay as they were
abbrev pub placed : List ℕ → List ℕ → Feed
placed file out = feed (Ok (length file)) (file ++ drop (length file) out)

unfoldable pub feed_of : Label → List ℕ → List ℕ → Feed
feed_of label body out = first (refuse out) (unfed label body out) (placed (feed_file label body) out)
