-- Laws on what is put at the front of a lent buffer.
--   put-short, put-fits        both ways out of `put_table`
use mathlib.Core.Path.{◌≡◌, sym, ap, ◌∙◌}
use mathlib.Core.List.{List, ◌++◌}
use Prim.Native.Nat.{ℕ, ◌<◌, ◌≤◌}
use native.Mathlib.Omega.{arith}
use lib.ListN.{length, drop}
use Rattle.answers.specs.Answers.{out}
use Rattle.answers.proofs.Puts.{puts-short, puts-values}
use Rattle.tables.specs.declared.Table.{Table}
use Rattle.tables.specs.Numbers.{table_numbers, table_put}

-- `e`: an array of sixteen has sixteen
module _ (t : Table) (fields : List ℕ) (e : length t.lengths ≡ 16) where
  whole : length (table_numbers t) ≡ 23
  whole = rw e

  pub put-short : length fields < 23 → out 15 fields ≡ table_put t fields
  unfolding table_put
  put-short h = let l : length fields < length (table_numbers t) = omega (arith, whole) in puts-short (table_numbers t) fields l

  pub put-fits : 23 ≤ length fields → {after : List ℕ} → after ≡ table_numbers t ++ drop 23 fields → out 0 after ≡ table_put t fields
  unfolding table_put
  put-fits h q =
      let l : length (table_numbers t) ≤ length fields = omega (arith, whole) in
      ap (out 0) (q ∙ ap (λ n. table_numbers t ++ drop n fields) (sym whole)) ∙ puts-values (table_numbers t) fields l
