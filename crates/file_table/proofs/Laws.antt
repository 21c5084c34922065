-- Which table a file is.
--   lent-refused, lent-table               both ways out of the question
--   file-untouched, file-accepted          a refused question leaves the buffer as it was; it is accepted exactly when
use mathlib.Core.Path.{◌≡◌, sym, ap, ◌∙◌}
use mathlib.Core.List.{List}
use mathlib.Core.Logic.{◌↔◌}
use Prim.Native.Nat.{ℕ, ◌≤◌}
use lib.ListN.{length}
use Rattle.std.specs.Prelude.{Ok, Err}
use Rattle.refusal.specs.Refusal.{number}
use Rattle.refusal.specs.declared.Refusal.{Refusal}
use Rattle.answers.specs.Answers.{out, puts}
use Rattle.answers.proofs.Puts.{puts-refused, puts-untouched, puts-accepted}
use Rattle.tables.specs.Numbers.{table_put}
use Rattle.file.specs.Scan.{scan_of}
use Rattle.file.specs.declared.Table.{Table}
use Rattle.file_table.specs.Answer.{file_table, told_by, file_told, file_table_lent}

module _ (file fields : List ℕ) where
  pub lent-refused : (r : Refusal) → scan_of file ≡ Err r → out (number r) fields ≡ file_table_lent file fields
  unfolding file_table_lent file_told
  lent-refused r e = puts-refused (number r) fields ∙ ap (λ s. puts (told_by s) fields) (sym e)

  pub lent-table :
      (found : Table)
      → scan_of file ≡ Ok found
      → {code : ℕ}
      {left : List ℕ}
      → out code left ≡ table_put (file_table found.header found.lengths) fields
      → out code left ≡ file_table_lent file fields
  unfolding file_table_lent file_told table_put
  lent-table found e g = g ∙ ap (λ s. puts (told_by s) fields) (sym e)

  pub file-untouched : ¬ ((file_table_lent file fields).code ≡ 0) → (file_table_lent file fields).out ≡ fields
  unfolding file_table_lent
  file-untouched = puts-untouched (file_told file) fields

  pub file-accepted :
      ((file_table_lent file fields).code ≡ 0)
      ↔ (((file_told file).number ≡ 0) × (length (file_told file).values ≤ length fields))
  unfolding file_table_lent
  file-accepted = puts-accepted (file_told file) fields
