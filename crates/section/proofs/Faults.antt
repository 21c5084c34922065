-- A reading by the first number that applies.
--   read_refused     where there is one, it refuses
--   read_none        where there is none, the section is sound
--   holds-header, holds_key   so it has the bytes that are read
--   read-built       as the code builds it
use mathlib.Core.Path.{◌≡◌, refl, sym, ap, ◌∙◌}
use mathlib.Core.List.{List, [], ◌∷◌}
use Prim.Native.Nat.{ℕ, ◌-◌, ◌≤◌}
use native.Mathlib.Omega.{arith}
use lib.ListN.{length}
use Rattle.std.specs.Prelude.{Ok, Err}
use Rattle.refusal.specs.declared.Refusal.{Refusal}
use Rattle.base.proofs.Tables.{refuses, passes}
use Rattle.key.specs.declared.Key.{Key}
use Rattle.key.specs.Key.{nrt_it}
use Rattle.section.specs.Section.{header_size, table_id, version, section_number, last_section_number, key_in, faults, fault_of, header_of, read_of}
use Rattle.section.proofs.Laws.{sound-facts}
use Rattle.section.proofs.Keys.{key-id}

module _ (s : List ℕ) where
  pub read_refused : {r : Refusal} → Err r ≡ fault_of s → Err r ≡ read_of s
  unfolding read_of fault_of
  read_refused e = sym (refuses (faults s) tt (header_of s) _ (sym e))

  pub read_none : Ok tt ≡ fault_of s → read_of s ≡ Ok (header_of s)
  unfolding read_of fault_of
  read_none e = passes (faults s) tt tt Err (Ok (header_of s)) (sym e)

  -- so it holds its header, and an NRT-IT its key
  module _ (e : Ok tt ≡ fault_of s) where
    pub holds-header : 8 ≤ length s
    holds-header = (sound-facts s (header_of s) (read_none e)).least

    pub holds_key : table_id s ≡ nrt_it → 14 ≤ length s
    holds_key t = (sound-facts s (header_of s) (read_none e)).holds_key (key-id s ∙ t)

  pub read-built : read_of s ≡ Ok (header_of s) → {k : Key} → k ≡ key_in s
      → Ok
      (record {
        key = k;
        version = version s;
        number = section_number s;
        last = last_section_number s;
        start = header_size;
        length = length s - header_size;
      })
      ≡ read_of s
  read-built e own = rw (own, ← (sound-facts s (header_of s) e).size) (sym e)
