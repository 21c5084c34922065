-- Two answers that meet one promise are equal.
use mathlib.Core.Path.{◌≡◌, sym, ◌∙◌}
use mathlib.Core.List.{List}
use Prim.Native.Nat.{ℕ}
use Rattle.file.specs.Scan.{scan_of}
use Rattle.file.specs.declared.Table.{Table}
use Rattle.std.specs.Prelude.{Result}
use Rattle.refusal.specs.declared.Refusal.{Refusal}

pub read-file-unique : (file : List ℕ) (r q : Result Table Refusal) → r ≡ scan_of file → q ≡ scan_of file → r ≡ q
read-file-unique file r q e f = e ∙ sym f
