-- Where the sections of a table that was read lie in its file.
use Rattle.std.specs.Prelude.{ℕ, ◌+◌, ◌<◌, ◌≤◌, ◌≡◌, List, length, get_or}
use Rattle.file.specs.declared.Table.{Table}

module _ (file : List ℕ) (table : Table) where
  -- section n, one of sixteen, lies in the file, where it is held
  pub record Inside (n : ℕ) : Type 0 where
    pub few : n < 16
    pub inside : ¬ (get_or table.lengths n 0 ≡ 0) → get_or table.starts n 0 + get_or table.lengths n 0 ≤ length file

  -- each up to the last does
  pub record AllInside : Type 0 where
    pub few : table.header.last ≤ 15
    pub each : (n : ℕ) → n ≤ table.header.last → ¬ (get_or table.lengths n 0 ≡ 0) → get_or table.starts n 0 + get_or table.lengths n 0 ≤ length file
