-- The number and the values of the answer lose nothing.
--   scan-told
use mathlib.Core.Path.{◌≡◌, sym, ap, ◌∙◌}
use mathlib.Core.List.{List}
use Prim.Native.Nat.{ℕ}
use lib.ListN.{get_or}
use Rattle.std.proofs.Math.Seq.{take-append_seam, drop-append_seam}
use Rattle.answers.specs.Answers.{Told}
use Rattle.answers.proofs.Same.{valueless}
use Rattle.file.specs.Answer.{ScanTold, scan_told}
use Rattle.file.specs.declared.Table.{Table}
use Rattle.section.specs.declared.Header.{Header}
use Rattle.std.specs.Prelude.{take, drop, Result, Ok, Err}
use Rattle.refusal.specs.declared.Refusal.{Refusal}
use Rattle.refusal.proofs.Numbers.{once}

-- the header whose fields are a list's first nine
abbrev header_from : List ℕ → Header
header_from l =
    record {
      key = record { table = get_or l 0 0; extension = get_or l 1 0; service = get_or l 2 0; start = get_or l 3 0 };
      version = get_or l 4 0;
      number = get_or l 5 0;
      last = get_or l 6 0;
      start = get_or l 7 0;
      length = get_or l 8 0;
    }

-- the table of that header whose places and lengths stand behind it, so many places first
abbrev table_from : List ℕ → Result Table Refusal
table_from l =
    Ok (record { header = header_from l; starts = take (get_or l 9 0) (drop 10 l); lengths = drop (get_or l 9 0) (drop 10 l) })

with_lists : (t : Table) (s l : List ℕ) → s ≡ t.starts → l ≡ t.lengths → record { header = t.header; starts = s; lengths = l } ≡ t
with_lists t s l e f =
    ap (λ x. record { header = t.header; starts = x; lengths = l }) e ∙ ap (λ x. record { header = t.header; starts = t.starts; lengths = x }) f

told_back : (t : Table) → table_from (scan_told (Ok t)).values ≡ Ok t
told_back t = ap Ok (with_lists t _ _ (take-append_seam t.starts t.lengths) (drop-append_seam t.starts t.lengths))

pub scan-told : ScanTold
scan-told (Ok g) (Ok h) e = sym (told_back g) ∙ ap (λ (t : Told). table_from t.values) e ∙ told_back h
scan-told (Err q) (Err r) e = ap Err (once q r (ap (λ (t : Told). t.number) e))
scan-told (Err q) (Ok h) e = valueless _ _ _ _ e
scan-told (Ok g) (Err r) e = valueless _ _ _ _ (sym e)
