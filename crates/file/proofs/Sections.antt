-- The scan of the sections, for each turn of its loop.
--   ended                what the end of the loop makes of what was seen: a refusal, bytes left over, or the table
--   past, within         by whether bytes are left over
--   none                 no section is left to read
--   faulty, other, fallen   the next section is refused
--   next                 the next section is taken
use mathlib.Core.Path.{◌≡◌, ap, ◌∙◌}
use mathlib.Core.Bool.{true, false}
use mathlib.Core.List.{List}
use Prim.Native.Nat.{ℕ, suc, ◌-◌, ◌<◌, ◌≤◌}
use native.Mathlib.Omega.{arith}
use lib.ListN.{length}
use borrow.Author.Tests.{lt-ltb, le-ltb}
use Rattle.std.specs.Prelude.{Option, Result, Ok, Err, ltb, if◌then◌else◌}
use Rattle.refusal.specs.declared.Refusal.{Refusal}
use Rattle.refusal.specs.declared.Refusal.TheVariants.{BadFile}
use Rattle.section.specs.declared.Header.{Header}
use Rattle.file.specs.Layout.{same_table}
use Rattle.file.specs.Scan.{Seen, accepted, first_of, added, section_at, sections_of}
use Rattle.file.specs.declared.Part.{Part}
use Rattle.file.specs.declared.Table.{Table}

-- what was seen, by its parts
abbrev pub seen_as : Option Header → ℕ → ℕ → List ℕ → List ℕ → Seen
seen_as first lowest next starts lengths = record { first = first; lowest = lowest; next = next; starts = starts; lengths = lengths }

abbrev pub ended : List ℕ → Seen → Result ℕ Refusal → Result Table Refusal
ended file seen (Ok at) = if ltb at (length file) then Err BadFile else accepted seen
ended file seen (Err r) = Err r

module _ (file : List ℕ) (seen : Seen) (at : ℕ) where
  pub past : ltb at (length file) ≡ true → ended file seen (Ok at) ≡ Err BadFile
  past l = rw l

  pub within : ltb at (length file) ≡ false → ended file seen (Ok at) ≡ accepted seen
  within l = rw l

module _ (file : List ℕ) (seen : Seen) (left : ℕ) where
  pub none : left ≡ 0 → sections_of left file seen ≡ ended file seen (Ok seen.next)
  unfolding sections_of
  none z = rw z

  module _ (some : left ≡ 0 → ⊥) where
    one_more : left ≡ suc (left - 1)
    one_more = omega arith

    pub faulty : (r : Refusal) → section_at file seen.next ≡ Err r → sections_of left file seen ≡ Err r
    unfolding sections_of
    faulty r e = rw (one_more, e)

    module _ (p : Part) (e : section_at file seen.next ≡ Ok p) where
      pub other : same_table (first_of seen p.header) p.header ≡ false → sections_of left file seen ≡ Err BadFile
      unfolding sections_of
      other d = rw (one_more, e, d)

      module _ (s : same_table (first_of seen p.header) p.header ≡ true) where
        pub fallen : p.header.number < seen.lowest → sections_of left file seen ≡ Err BadFile
        unfolding sections_of
        fallen l = rw (one_more, e, s, lt-ltb p.header.number seen.lowest l)

        pub next : seen.lowest ≤ p.header.number → sections_of left file seen ≡ sections_of (left - 1) file (added seen p.header p.start p.length)
        unfolding sections_of
        next l = ap (λ n. sections_of n file seen) one_more ∙ (rw (e, s, le-ltb p.header.number seen.lowest l))
