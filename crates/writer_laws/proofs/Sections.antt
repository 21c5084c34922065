-- A written section is a sound section of the table with its label's key.
--   its-header     its header is what the writer was given
--   is-section     it is a sound section of that table
--   its-number     its number is the one that was asked for
--   its-size       it has at most 1,024 bytes
--   its-body       past its header it is its part of the body
use mathlib.Core.Path.{◌≡◌, refl, sym, ap, ◌∙◌}
use mathlib.Core.List.{List}
use Prim.Native.Nat.{ℕ, ◌≤◌}
use native.Mathlib.Omega.{arith}
use lib.ListN.{length, drop}
use Rattle.std.specs.Prelude.{Ok}
use Rattle.section.specs.Section.{read_of, header_of, version, section_number, last_section_number}
use Rattle.section.specs.declared.Header.{Header}
use Rattle.section.proofs.Laws.{sound-facts}
use Rattle.shelf.specs.Record as Record
use Rattle.shelf_laws.specs.Reception.{SectionOf}
use Rattle.writer.specs.Writer.{full, longest_body, last_of, body_at, section_of, written}
use Rattle.key.specs.Key.{nrt_it}
use Rattle.writer.specs.declared.Label.{Label}
use Rattle.writer.proofs.Laws.{length-section}
use Rattle.writer.proofs.Agree.{found, reads_back, length-carried}
use Rattle.writer_laws.specs.Offers.{label_key}

module _ (label : Label) (body : List ℕ) (other : ¬ (label.table ≡ nrt_it)) (five : label.version ≤ 31) (fits : length body ≤ longest_body) (k : ℕ) (known : k ≤ last_of (length body)) where
  abbrev header : Header
  header = found label k (last_of (length body)) (body_at body k)

  reads : read_of (written label body k) ≡ Ok header
  reads = reads_back label body k other fits five known

  pub its-header : header_of (written label body k) ≡ header
  its-header = sym (sound-facts (written label body k) header reads).header

  pub is-section : SectionOf (label_key label) (written label body k)
  is-section = record { sound = reads ∙ ap Ok (sym its-header); its_key = ap Record.key_of its-header }

  pub its-number : section_number (written label body k) ≡ k
  its-number = ap (λ (h : Header). h.number) its-header

  pub its-version : version (written label body k) ≡ label.version
  its-version = ap (λ (h : Header). h.version) its-header

  pub its-last : last_section_number (written label body k) ≡ last_of (length body)
  its-last = ap (λ (h : Header). h.last) its-header

  pub its-size : length (written label body k) ≤ 1024
  unfolding written
  its-size =
      let e = length-section label k (last_of (length body)) (body_at body k) in
      let l : length (body_at body k) ≤ full = length-carried label body k fits five known in
      omega arith

pub its-body : (label : Label) (body : List ℕ) (k : ℕ) → drop 8 (written label body k) ≡ body_at body k
unfolding written section_of
its-body label body k = refl
