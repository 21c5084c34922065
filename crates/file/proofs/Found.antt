-- What is so of a section that is found at a place of the file.
--   sound-size, sound-header, sound-number     what a sound section says of itself
--   found     its length is written there, it lies in the file, and it is sound
use mathlib.Core.Path.{◌≡◌, ap}
use mathlib.Core.Bool.{◌||◌}
use mathlib.Core.List.{List}
use mathlib.Core.Logic.{inr}
use Prim.Native.Nat.{ℕ, ◌+◌, ◌<◌, ◌≤◌}
use native.Mathlib.Omega.{arith}
use lib.Dec.{ltb}
use lib.ListN.{length}
use borrow.Author.Tests.{ltb-false}
use Rattle.base.specs.Bytes.{part}
use Rattle.base.proofs.Cases.{by, or_left, or_right}
use Rattle.section.specs.Section.{section_length, read_of, header_of}
use Rattle.section.proofs.ExactlyWhen as section
use Rattle.section.specs.declared.Header.{Header}
use Rattle.std.specs.Prelude.{Result, Ok, Err}
use Rattle.refusal.specs.declared.Refusal.{Refusal}
use Rattle.refusal.specs.declared.Refusal.TheVariants.{BadFile}
use Rattle.file_number.specs.Number.{number_at}
use Rattle.file_number.specs.declared.Number.{Number}
use Rattle.file_number.specs.Number.{numeral}
use Rattle.file.specs.Layout.{shortest, longest}
use Rattle.file.specs.Scan.{lying, reading_of, length_of, section_at}
use Rattle.file.specs.declared.Part.{Part}

-- a sound section's size and number
pub sound-size : (s : List ℕ) (h : Header) → read_of s ≡ Ok h → (shortest ≤ length s) × (length s ≤ longest)
sound-size s h e =
    let w = (section.sound s h).0 e in
    let a : ¬ (section.LengthOutOfRange s) = w.0.1.1.0 in
    let b : ¬ (section.LongerThanPayload s) = w.0.1.1.1.0 in
    let c : ¬ (section.ShorterThanPayload s) = w.0.1.1.1.1.0 in
    let d : ¬ (section.PayloadShort s) = w.0.0 in
    let u : 1021 < section_length s → ⊥ = (λ l. a (inr l)) in
    (omega arith, omega arith)

pub sound-header : (s : List ℕ) (h : Header) → read_of s ≡ Ok h → h ≡ header_of s
sound-header s h e = ((section.sound s h).0 e).1

pub sound-number : (s : List ℕ) (h : Header) → read_of s ≡ Ok h → (h.number ≤ h.last) × (h.last ≤ 15)
sound-number s h e =
    let w = (section.sound s h).0 e in
    let n : (header_of s).number ≤ (header_of s).last = (let d = w.0.1.1.1.1.1.0 in omega arith) in
    let l : (header_of s).last ≤ 15 = (let d = w.0.1.1.1.1.1.1.0 in omega arith) in
    rw w.1 (n, l)

module _ (h : Header) (start size : ℕ) where
  pub record Found (file : List ℕ) (n : Result Number Refusal) : Type 0 where
    pub stands : n ≡ Ok (numeral size start)
    pub low : shortest ≤ size
    pub high : size ≤ longest
    pub inside : start + size ≤ length file
    pub sound : read_of (part file start size) ≡ Ok h

  apart : {A : Type 0} (r : Refusal) → Err r ≡ Ok (lying h start size) → A
  apart r e = cc

  reading : (r : Result Header Refusal) (start' size' : ℕ) → reading_of start' size' r ≡ Ok (lying h start size)
      → (r ≡ Ok h) × (start' ≡ start) × (size' ≡ size)
  reading (Ok g) start' size' e =
      let q : lying g start' size' ≡ lying h start size = cc in
      (ap (λ (p : Part). Ok p.header) q, ap (λ (p : Part). p.start) q, ap (λ (p : Part). p.length) q)
  reading (Err r) start' size' e = apart r e

  length_found : (file : List ℕ) (n : Result Number Refusal) → length_of file n ≡ Ok (lying h start size) → Found file n
  length_found file (Err r) e = apart r e
  length_found file (Ok found) e =
      by (ltb found.value shortest || ltb longest found.value)
      (λ t. apart BadFile (rw t at e))
      (λ f.
      by (ltb (length file) (found.next + found.value))
      (λ t. apart BadFile (rw (f, t) at e))
      (λ g.
      let r : (read_of (part file found.next found.value) ≡ Ok h) × (found.next ≡ start) × (found.value ≡ size)
      = reading (read_of (part file found.next found.value)) found.next found.value (rw (f, g) at e) in
      let a : shortest ≤ found.value = ltb-false _ _ (or_left (ltb found.value shortest) _ f) in
      let b : found.value ≤ longest = ltb-false _ _ (or_right (ltb found.value shortest) _ f) in
      let i : found.next + found.value ≤ length file = ltb-false _ _ g in
      record {
        stands = rw (← r.1, ← r.2);
        low = rw (← r.2) a;
        high = rw (← r.2) b;
        inside = rw (← r.1, ← r.2) i;
        sound = rw (← r.1, ← r.2) r.0;
      }))

  pub found : (file : List ℕ) (at : ℕ) → section_at file at ≡ Ok (lying h start size) → Found file (number_at file at)
  unfolding section_at
  found file at e = length_found file (number_at file at) e
