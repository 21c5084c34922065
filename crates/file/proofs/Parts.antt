-- The section at a place of the file, for each way through its reading.
--   no_number            11
--   short, long, past    12: its length, or its bytes run past the file
--   read_as              the section's own reading
use mathlib.Core.Path.{◌≡◌}
use mathlib.Core.List.{List}
use Prim.Native.Nat.{ℕ, ◌+◌, ◌-◌, ◌<◌, ◌≤◌}
use native.Mathlib.Omega.{arith}
use lib.ListN.{length}
use borrow.Author.Tests.{lt-ltb, le-ltb}
use Rattle.std.specs.Prelude.{Ok, Err}
use Rattle.refusal.specs.declared.Refusal.{Refusal}
use Rattle.refusal.specs.declared.Refusal.TheVariants.{BadFile}
use Rattle.base.specs.Bytes.{part}
use Rattle.section.specs.Section.{read_of}
use Rattle.file_number.specs.Number.{number_at}
use Rattle.file_number.specs.declared.Number.{Number}
use Rattle.file_number.proofs.Bounds.{within}
use Rattle.file.specs.Layout.{shortest, longest}
use Rattle.file.specs.Scan.{reading_of, section_at}

module _ (file : List ℕ) (at : ℕ) where
  pub no_number : (r : Refusal) → number_at file at ≡ Err r → Err r ≡ section_at file at
  unfolding section_at
  no_number r e = rw e

  module _ (found : Number) (e : number_at file at ≡ Ok found) where
    pub short : found.value < 8 → Err BadFile ≡ section_at file at
    unfolding section_at
    short l = rw (e, lt-ltb found.value shortest l)

    module _ (s : 8 ≤ found.value) where
      pub long : 1024 < found.value → Err BadFile ≡ section_at file at
      unfolding section_at
      long l = rw (e, le-ltb found.value shortest s, lt-ltb longest found.value l)

      module _ (l : found.value ≤ 1024) where
        pub past : length file - found.next < found.value → Err BadFile ≡ section_at file at
        unfolding section_at
        past p =
            let b : found.next ≤ length file = (within file at found.value found.next e).2 in
            rw (e, le-ltb found.value shortest s, le-ltb longest found.value l, lt-ltb (length file) (found.next + found.value) (omega arith))

        -- the code takes the bytes up to the section's end
        pub read_as : (taken : ℕ) → taken ≡ found.value → found.value ≤ length file - found.next
            → section_at file at ≡ reading_of found.next found.value (read_of (part file found.next taken))
        unfolding section_at
        read_as taken q p =
            let b : found.next ≤ length file = (within file at found.value found.next e).2 in
            rw (q, e, le-ltb found.value shortest s, le-ltb longest found.value l, le-ltb (length file) (found.next + found.value) (omega arith))
