-- The first section's header, where a reading answers one.
--   headed     the table that it is of
use mathlib.Core.Path.{◌≡◌, refl}
use Rattle.std.specs.Prelude.{Result, Ok, Err}
use Rattle.refusal.specs.declared.Refusal.{Refusal}
use Rattle.section.specs.declared.Header.{Header}
use Rattle.file.specs.Scan.{heading}
use Rattle.file.specs.declared.Table.{Table}

pub record Headed (r : Result Table Refusal) (h : Header) : Type 0 where
  pub table : Table
  pub is : r ≡ Ok table
  pub header : table.header ≡ h

pub headed : (r : Result Table Refusal) (h : Header) → heading r ≡ Ok h → Headed r h
headed (Ok table) h e = record { table = table; is = refl; header = cc }
headed (Err r) h e = cc
