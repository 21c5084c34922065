-- What later layers cite of a reading.
--   sound-facts   what a sound reading says of its header and its payload
--   sound_fits    and of a payload of bytes: the numbers of its key fit their bits
--   unique        two answers that keep `section::read`'s promise are equal
use mathlib.Core.Path.{◌≡◌, refl, sym, ◌∙◌}
use mathlib.Core.List.{List}
use mathlib.Core.Logic.{inl, inr}
use Prim.Native.Nat.{ℕ, ◌<◌, ◌≤◌}
use native.Mathlib.Omega.{arith}
use lib.ListN.{length}
use Rattle.base.specs.Tables.{None}
use lib.Dec.{ltb}
use borrow.Author.Tests.{ltb-true, ltb-false}
use Rattle.base.proofs.Cases.{by}
use Rattle.section.specs.Section.{read_of, header_of, section_size, section_length, section_number, last_section_number}
pub use Rattle.section.specs.Theorems.{SoundFacts}
use Rattle.section.specs.Theorems.{SoundFits, Unique}
use Rattle.section.specs.declared.Header.{Header}
use Rattle.std.specs.Prelude.{Ok}
use Rattle.section.proofs.ExactlyWhen.{KeyShort, table, sound, not_refused}
use Rattle.section.proofs.Keys.{key-id, key_fits}

not-under : (a b : ℕ) → ¬ (a < b) → b ≤ a
not-under a b d = by (ltb a b) (λ t. absurd (d (ltb-true a b t))) (λ f. ltb-false a b f)

module _ (s : List ℕ) where
  of-header : None (table s) → SoundFacts s (header_of s)
  of-header n =
      let under : ¬ (section_length s < 5) = λ x. n.1.1.0 (inl x) in
      let over : ¬ (1021 < section_length s) = λ x. n.1.1.0 (inr x) in
      let longer : ¬ (length s < section_size s) = n.1.1.1.0 in
      let shorter : ¬ (section_size s < length s) = n.1.1.1.1.0 in
      let above : ¬ (last_section_number s < section_number s) = n.1.1.1.1.1.0 in
      let last : ¬ (15 < last_section_number s) = n.1.1.1.1.1.1.0 in
      let short : ¬ (KeyShort s) = n.1.1.1.1.1.1.1.1.0 in
      record {
        header = refl;
        size = omega arith;
        least = omega arith;
        most = omega arith;
        start = refl;
        body = omega arith;
        number = omega arith;
        last = omega arith;
        version = omega arith;
        holds_key = λ e. not-under (length s) 14 (λ l. short (sym (key-id s) ∙ e, l));
        none = (not_refused s).1 n;
      }

  pub sound-facts : (h : Header) → read_of s ≡ Ok h → SoundFacts s h
  sound-facts h e = let w = (sound s h).0 e in rw w.1 (of-header w.0)

  pub sound_fits : SoundFits s
  sound_fits h e b = rw ((sound s h).0 e).1 (key_fits s b)

  pub unique : Unique s
  unique x y p q = p ∙ sym q
