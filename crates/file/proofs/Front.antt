-- The front of a file, for each way through it.
--   no-count, few, many, counted      its count
--   no-form, other-form, formed       its form
use mathlib.Core.Path.{◌≡◌}
use mathlib.Core.List.{List}
use Prim.Native.Nat.{ℕ, ◌<◌, ◌≤◌}
use borrow.Author.Tests.{lt-ltb, le-ltb, eq-eqb, ne_eqb}
use Rattle.std.specs.Prelude.{Ok, Err}
use Rattle.refusal.specs.declared.Refusal.{Refusal}
use Rattle.refusal.specs.declared.Refusal.TheVariants.{BadFile}
use Rattle.file_number.specs.Number.{number_at}
use Rattle.file_number.specs.declared.Number.{Number}
use Rattle.file.specs.Layout.{form, fewest, most_counted}
use Rattle.file.specs.Scan.{nothing, sections_of, count_of, scan_of}

module _ (file : List ℕ) (at : ℕ) where
  pub no-count : (r : Refusal) → number_at file at ≡ Err r → Err r ≡ count_of file (number_at file at)
  no-count r e = rw e

  module _ (count : Number) (e : number_at file at ≡ Ok count) where
    pub few : count.value < 1 → Err BadFile ≡ count_of file (number_at file at)
    few l = rw (e, lt-ltb count.value fewest l)

    module _ (f : 1 ≤ count.value) where
      pub many : 16 < count.value → Err BadFile ≡ count_of file (number_at file at)
      many l = rw (e, le-ltb count.value fewest f, lt-ltb most_counted count.value l)

      pub counted : count.value ≤ 16 → sections_of count.value file (nothing count.next) ≡ count_of file (number_at file at)
      counted l = rw (e, le-ltb count.value fewest f, le-ltb most_counted count.value l)

module _ (file : List ℕ) where
  pub no-form : (r : Refusal) → number_at file 0 ≡ Err r → Err r ≡ scan_of file
  unfolding scan_of
  no-form r e = rw e

  module _ (found : Number) (e : number_at file 0 ≡ Ok found) where
    pub other-form : (found.value ≡ 1 → ⊥) → Err BadFile ≡ scan_of file
    unfolding scan_of
    other-form d = rw (e, ne_eqb found.value form d)

    pub formed : found.value ≡ 1 → count_of file (number_at file found.next) ≡ scan_of file
    unfolding scan_of
    formed d = rw (e, eq-eqb found.value form d)
