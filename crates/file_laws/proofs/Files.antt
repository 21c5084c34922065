-- The shelf file, in four statements. `Bytes` says that each element of a list is a byte.
--   accepted-exactly     a file is accepted exactly when it is the file of some sound table
--   file-of-the-table    and then it is the file of the table that was read, which is sound
--   one_table            so a file is the file of one table
--   too_long             a file of more than 16,418 bytes is refused
use mathlib.Core.Path.{◌≡◌, sym, ap, subst, ◌∙◌}
use mathlib.Core.List.{List, [], ◌∷◌}
use mathlib.Core.Logic.{◌↔◌}
use Prim.Native.Nat.{ℕ, ◌<◌, ◌≤◌}
use native.Mathlib.Omega.{arith}
use lib.ListN.{length}
use Rattle.std.specs.Prelude.{Ok}
use Rattle.section.specs.Section.{header_of}
use Rattle.section.specs.declared.Header.{Header}
use Rattle.file_number.specs.Number.{Bytes}
use Rattle.file.specs.Layout.{largest_file, file_of, SoundTable}
use Rattle.file.specs.Scan.{heading, scan_of, table_in}
use Rattle.file_laws.proofs.Accepts.{accepted-as, in-one-way}
use Rattle.file_laws.proofs.Only.{only-files}
use Rattle.file_laws.proofs.Largest.{largest-file}

-- the file is accepted: its reading gives a table
abbrev pub Accepted : List ℕ → Type 0
Accepted file = (h : Header) × (heading (scan_of file) ≡ Ok h)

-- it is the file of some sound table
abbrev pub IsFile : List ℕ → Type 0
IsFile file = (ss : List (List ℕ)) × SoundTable ss × (file ≡ file_of ss)

pub sound-accepted : (ss : List (List ℕ)) → SoundTable ss → Accepted (file_of ss)
sound-accepted [] t = absurd t
sound-accepted (s ∷ ss) t = (header_of s, accepted-as s ss t)

module _ (file : List ℕ) (b : Bytes file) where
  pub accepted-exactly : Accepted file ↔ IsFile file
  accepted-exactly = (λ a. only-files file b a.0 a.1, λ f. subst Accepted (sym f.2) (sound-accepted f.0 f.1))

  pub file-of-the-table : Accepted file → SoundTable (table_in file) × (file ≡ file_of (table_in file))
  file-of-the-table a =
      let f : IsFile file = accepted-exactly.0 a in
      let e : table_in file ≡ f.0 = ap table_in f.2 ∙ in-one-way f.0 f.1 in
      (subst SoundTable (sym e) f.1, f.2 ∙ ap file_of (sym e))

  pub too_long : largest_file < length file → Accepted file → ⊥
  too_long l a =
      let f : IsFile file = accepted-exactly.0 a in
      let k : length (file_of f.0) ≤ largest_file = largest-file f.0 f.1 in
      let e : length file ≡ length (file_of f.0) = ap length f.2 in
      omega arith

pub one_table : (ss tt : List (List ℕ)) → SoundTable ss → SoundTable tt → file_of ss ≡ file_of tt → ss ≡ tt
one_table ss tt s t e = sym (in-one-way ss s) ∙ ap table_in e ∙ in-one-way tt t
