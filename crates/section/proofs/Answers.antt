-- A host loses nothing by the answers in two numbers (`specs/Answer.antt` has the words).
--   comes_back       each value comes back out of the answers
--   reading_number   the low 8 bits are the number of the reading
--   accepted         they are 0 exactly when the section is sound
--   nothing_added    the second answer is 0 where the table is no NRT-IT
--   read_alike       payloads of one length that have the same answers are read alike
use mathlib.Core.Path.{◌≡◌, refl, sym, ap, ◌∙◌}
use mathlib.Core.List.{List}
use Prim.Native.Nat.{ℕ, ◌%◌, ◌^◌, ◌<◌, ◌≤◌}
use native.Mathlib.Omega.{arith}
use lib.ListN.{length}
use borrow.Author.Tests.{eq-eqb, ne_eqb}
use Rattle.base.specs.Octets.{Octets}
use Rattle.key.specs.Key.{nrt_it}
use Rattle.key.proofs.Keys.{key-other}
use Rattle.section.specs.declared.Header.{Header}
use Rattle.std.specs.Prelude.{Result, Ok, Err}
use Rattle.refusal.specs.Refusal.{number, number_of}
use Rattle.refusal.specs.declared.Refusal.{Refusal}
use Rattle.refusal.proofs.Numbers.{in_byte, back as refusal_back}
use Rattle.section.specs.Section.{table_id, table_id_extension, service_id, time_span_start, key_in, read_of}
use Rattle.section.specs.Answer.{reading_code, key_code, reading_in, ComesBack, ReadingNumber, NothingAdded, Accepted, ReadAlike}
use Rattle.section.specs.Theorems.{FitsKey}
use Rattle.section.proofs.Keys.{key-id}
use Rattle.section.proofs.Laws.{sound-facts, sound_fits}

-- a header by its fields
header-by : (h : Header) (table extension service begin version number last start size : ℕ)
    → table ≡ h.key.table → extension ≡ h.key.extension → service ≡ h.key.service → begin ≡ h.key.start
    → version ≡ h.version → number ≡ h.number → last ≡ h.last
    → start ≡ h.start → size ≡ h.length
    → record {
      key = record { table = table; extension = extension; service = service; start = begin };
      version = version;
      number = number;
      last = last;
      start = start;
      length = size;
    } ≡ h
header-by h table extension service begin version number last start size a b c d e f g i j = rw (a, b, c, d, e, f, g, i, j)

-- the fields fit their bits
pub record Narrow (h : Header) : Type 0 where
  pub key : FitsKey h.key
  pub version : h.version < 2 ^ 8
  pub number : h.number < 2 ^ 8

module _ (s : List ℕ) (b : Octets s) where
  narrow : (h : Header) → read_of s ≡ Ok h → Narrow h
  narrow h e =
      let f = sound-facts s h e in
      let number : h.number ≤ h.last = f.number in
      let last : h.last ≤ 15 = f.last in
      let version : h.version < 32 = f.version in
      record { key = sound_fits s h e b; version = omega arith; number = omega arith }

  back : (r : Result Header Refusal) → read_of s ≡ r → reading_in (length s) (reading_code r) (key_code r) ≡ r
  back (Ok h) e =
      let f = sound-facts s h e in
      let n = narrow h e in
      let table : h.key.table < 2 ^ 8 = n.key.table in
      let extension : h.key.extension < 2 ^ 16 = n.key.extension in
      let service : h.key.service < 2 ^ 16 = n.key.service in
      let version : h.version < 2 ^ 8 = n.version in
      let number : h.number < 2 ^ 8 = n.number in
      rw (eq-eqb (reading_code (Ok h) % 2 ^ 8) 0 (omega arith))
      (ap Ok
      (header-by h _ _ _ _ _ _ _ _ _ (omega arith) (omega arith) (omega arith) (omega arith) (omega arith) (omega arith) (omega arith) (sym f.start) (sym f.body)))
  back (Err refusal) e =
      let low : 0 < number refusal = (in_byte refusal).0 in
      let high : number refusal < 256 = (in_byte refusal).1 in
      rw (ne_eqb (number refusal % 2 ^ 8) 0 (omega arith)) (ap Err (refusal_back refusal))

  pub comes_back : ComesBack s
  comes_back = back (read_of s) refl

  pub reading_number : ReadingNumber s
  reading_number = of (read_of s) refl
    where
      of : (r : Result Header Refusal) → read_of s ≡ r → (reading_code r % 2 ^ 8 ≡ number_of r) × (key_code r % 2 ^ 8 ≡ number_of r)
      of (Ok h) e = (omega arith, omega arith)
      of (Err refusal) e =
          let low : 0 < number refusal = (in_byte refusal).0 in
          let high : number refusal < 256 = (in_byte refusal).1 in
          (omega arith, omega arith)

  pub accepted : Accepted s
  accepted = (to (read_of s) refl, λ w. rw w.1 (omega arith))
    where
      to : (r : Result Header Refusal) → read_of s ≡ r → reading_code (read_of s) % 2 ^ 8 ≡ 0 → (h : Header) × (read_of s ≡ Ok h)
      to (Ok h) e z = (h, e)
      to (Err refusal) e z =
          let low : 0 < number refusal = (in_byte refusal).0 in
          let high : number refusal < 256 = (in_byte refusal).1 in
          let y : number refusal % 2 ^ 8 ≡ 0 = rw e at z in
          absurd (omega arith)

-- of any payload
pub nothing_added : (s : List ℕ) → NothingAdded s
nothing_added s h e d =
    let at : h.key ≡ key_in s = ap (λ x. x.key) (sound-facts s h e).header in
    let other : ¬ (table_id s ≡ nrt_it) = λ t. d (ap (λ k. k.table) at ∙ key-id s ∙ t) in
    let plain : h.key ≡ record { table = table_id s; extension = table_id_extension s; service = 0; start = 0 }
    = at ∙ key-other (table_id s) (table_id_extension s) (service_id s) (time_span_start s) other in
    rw (e, plain)

pub read_alike : (s t : List ℕ) → Octets s → Octets t → ReadAlike s t
read_alike s t b c l e f =
    sym (comes_back s b)
    ∙ (ap (λ n. reading_in n (reading_code (read_of s)) (key_code (read_of s))) l
    ∙ (ap (λ n. reading_in (length t) n (key_code (read_of s))) e ∙ (ap (reading_in (length t) (reading_code (read_of t))) f ∙ comes_back t c)))
