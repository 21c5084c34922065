-- The file of a body's sections is accepted, holds them all, and is listed as complete.
--   sound-table       the sections are those of a sound table
--   accepted          the file's reading gives the table with the label, and its last number
--   holds-sections    and finds the sections, each once and in order
--   lists-complete    its list has a line for each section, and says that the table is complete
use mathlib.Core.Path.{◌≡◌, refl, ap, ◌∙◌}
use mathlib.Core.Bool.{true}
use mathlib.Core.List.{List, [], ◌∷◌, ◌++◌}
use Prim.Native.Nat.{ℕ, zero, suc, ◌+◌, ◌≤◌}
use native.Mathlib.Omega.{arith}
use lib.ListN.{length}
use borrow.Author.Tests.{eq-eqb}
use Rattle.std.specs.Prelude.{Ok}
use Rattle.key.specs.Key.{nrt_it}
use Rattle.key.proofs.Keys.{key-itself}
use Rattle.section.specs.Section.{header_of}
use Rattle.section.specs.declared.Header.{Header}
use Rattle.file.specs.Layout.{file_of, same_table, SoundTable}
use Rattle.file.specs.Scan.{scan_of, heading, table_in}
use Rattle.file_laws.proofs.Whole.{sections_to, Numbered, sound-all, accepted-all, holds-all, lists-all}
use Rattle.file_listing.specs.Words.{lines}
use Rattle.file_listing.specs.Listing.{head_line, section_line, complete_line, text_of}
use Rattle.writer.specs.Writer.{longest_body, last_of, body_at, written}
use Rattle.writer.specs.declared.Label.{Label}
use Rattle.writer.proofs.Laws.{last-le}
use Rattle.writer.proofs.Agree.{found}
use Rattle.writer_file.specs.Feeding.{sections_below, sections_of, feed_file}
use Rattle.writer_laws.specs.Laws.{SoundSections, FileAccepted, FileHolds, FileListed}
use Rattle.writer_laws.proofs.Sections.{its-header, is-section, its-number}

module _ (label : Label) (body : List ℕ) where
  all-to : (n : ℕ) → sections_below label body n ≡ sections_to (written label body) n
  unfolding sections_below sections_to
  all-to zero = refl
  all-to (suc n) = ap (λ l. l ++ (written label body n ∷ [])) (all-to n)

  module _ (other : ¬ (label.table ≡ nrt_it)) (five : label.version ≤ 31) (fits : length body ≤ longest_body) where
    abbrev last : ℕ
    last = last_of (length body)

    -- the header of section k
    abbrev header_at : ℕ → Header
    header_at k = found label k last (body_at body k)

    shares : (j k : ℕ) → same_table (header_at j) (header_at k) ≡ true
    unfolding same_table
    shares j k = rw (key-itself (header_at j).key, eq-eqb label.version label.version refl, eq-eqb last last refl)

    header_is : (k : ℕ) → k ≤ last → header_of (written label body k) ≡ header_at k
    header_is = its-header label body other five fits

    each : Numbered (written label body) last
    each =
        record {
          few = last-le (length body) fits;
          sound = λ k l. (is-section label body other five fits k l).sound;
          shares = λ k l. rw (header_is 0 (omega arith), header_is k l) (shares 0 k);
          number = its-number label body other five fits;
          ends = ap (λ (h : Header). h.last) (header_is 0 (omega arith));
        }

    whole : feed_file label body ≡ file_of (sections_to (written label body) (last + 1))
    unfolding feed_file
    whole = ap file_of (all-to (last + 1))

    sound-sections : SoundTable (sections_of label body)
    sound-sections = rw (all-to (last + 1)) (sound-all (written label body) last each)

    file-accepted : heading (scan_of (feed_file label body)) ≡ Ok (header_at 0)
    file-accepted = rw whole (accepted-all (written label body) last each ∙ ap Ok (header_is 0 (omega arith)))

    file-holds : table_in (feed_file label body) ≡ sections_of label body
    file-holds = rw (whole, all-to (last + 1)) (holds-all (written label body) last each)

    file-listed : text_of (feed_file label body) ≡ head_line (header_at 0) ++ (lines (last + 1) (λ k. section_line k (length (written label body k))) ++ complete_line)
    file-listed =
        rw whole
        (lists-all (written label body) last each
        ∙ ap (λ h. head_line h ++ (lines (last + 1) (λ k. section_line k (length (written label body k))) ++ complete_line)) (header_is 0 (omega arith)))

pub sound-table : SoundSections
sound-table = sound-sections

pub accepted : FileAccepted
accepted = file-accepted

pub holds-sections : FileHolds
holds-sections = file-holds

pub lists-complete : FileListed
lists-complete = file-listed
