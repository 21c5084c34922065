-- The whole listing.
--   complete, lacking            how it ends
--   refused-text, table-text     the text of a refused file, and of a table
--   too_small, fits              the output has no room for it, or has
--   table-last                   a table's last number is at most 15
use mathlib.Core.Path.{◌≡◌, sym, ap, ◌∙◌}
use mathlib.Core.Bool.{true, false}
use mathlib.Core.List.{List, ◌++◌}
use Prim.Native.Nat.{ℕ, ◌+◌, ◌<◌, ◌≤◌}
use native.Mathlib.Omega.{arith}
use lib.ListN.{length, drop}
use lib.Seq.{length-take-le}
use borrow.Author.Tests.{lt-ltb, le-ltb}
use Rattle.base.specs.Below.{every}
use Rattle.file.specs.Scan.{scan_of, found_at}
use Rattle.file.specs.declared.Table.{Table}
use Rattle.refusal.specs.Refusal.{number}
use Rattle.std.specs.Prelude.{Ok, Err}
use Rattle.refusal.specs.declared.Refusal.{Refusal}
use Rattle.refusal.specs.declared.Refusal.TheVariants.{OutputTooSmall}
use Rattle.file.proofs.Held.{held}
use Rattle.file_listing.specs.Words.{lines}
use Rattle.file_listing.specs.Growing.{shown, empty, Grew}
use Rattle.file_listing.specs.Listing.{complete_line, refused_line, missing_of, end_of, table_text, text_of, listing, list_of}
use Rattle.file_listing.specs.declared.Text.{Text}

wider : {s : List ℕ} {m k : ℕ} {t r : Text} → m ≤ k → Grew s m t r → Grew s k t r
wider {s} {m} {k} {t} {r} l g = record { shows = g.shows; within = (let w : r.size ≤ t.size + m = g.within in omega arith) }

module _ (last : ℕ) (lengths : List ℕ) (t r : Text) where
  pub complete : every (last + 1) (found_at lengths) ≡ true → Grew complete_line 9 t r → Grew (end_of last lengths) 224 t r
  unfolding end_of
  complete e g = rw e (wider (omega arith) g)

  pub lacking : every (last + 1) (found_at lengths) ≡ false → Grew (lines (last + 1) (missing_of lengths)) 224 t r → Grew (end_of last lengths) 224 t r
  unfolding end_of
  lacking e g = rw e g

module _ (file : List ℕ) (t r : Text) (b : t ≡ empty) where
  pub refused-text : (refusal : Refusal) → Err refusal ≡ scan_of file → {n : ℕ} → n ≡ number refusal → Grew (refused_line n) 14 t r → Grew (text_of file) 718 empty r
  unfolding text_of
  refused-text refusal e q g = rw (← e, ← q, ← b) (wider (omega arith) g)

  pub table-text : (table : Table) → Ok table ≡ scan_of file → Grew (table_text table.header table.lengths) 718 t r → Grew (text_of file) 718 empty r
  unfolding text_of
  table-text table e g = rw (← e, ← b) g

pub table-last : (file : List ℕ) (table : Table) → Ok table ≡ scan_of file → table.header.last ≤ 15
table-last file table e = (held file table (sym e)).last

module _ (file out : List ℕ) (t : Text) (long : length t.bytes ≡ 718) (g : Grew (text_of file) 718 empty t) where
  text-size : length (text_of file) ≡ t.size
  text-size =
      let w : t.size ≤ 718 = g.within in
      ap length (sym g.shows) ∙ length-take-le t.size t.bytes (omega arith)

  pub too_small : length out < t.size → listing (Err OutputTooSmall) out ≡ list_of file out
  unfolding list_of
  too_small l = rw (text-size, lt-ltb (length out) t.size l)

  pub fits : t.size ≤ length out → {written : List ℕ} → written ≡ shown t → listing (Ok t.size) (written ++ drop t.size out) ≡ list_of file out
  unfolding list_of
  fits l e = rw (text-size, le-ltb (length out) t.size l, e, g.shows)
