-- The file of a whole table, whose sections are given by their numbers: it is accepted, holds them all, and is listed as complete.
--   sections_to        sections 0 to n - 1
--   sound-all         the sections are those of a sound table
--   accepted-all      the file's reading gives the table of the first section
--   holds-all         and finds the sections, each once and in order
--   lists-all         its list has a line for each section, and says that the table is complete
use mathlib.Core.Path.{◌≡◌, refl, sym, ap, subst, ◌∙◌}
use mathlib.Core.Bool.{true, not}
use mathlib.Core.Logic.{⊎_elim}
use mathlib.Core.List.{List, [], ◌∷◌, ◌++◌, Memᴰ}
use Prim.Native.Nat.{ℕ, zero, suc, ◌+◌, ◌<◌, ◌≤◌}
use native.Mathlib.Omega.{arith}
use lib.ListN.{length, get_or, length-append}
use borrow.Author.Tests.{eq-eqb, ne_eqb}
use Rattle.base.specs.Bytes.{part}
use Rattle.base.proofs.Cases.{same_or, unlike}
use Rattle.base.proofs.Below.{every-all}
use Rattle.base.proofs.Bytes.{length_part}
use Rattle.std.specs.Prelude.{Ok}
use Rattle.section.specs.Section.{read_of, header_of}
use Rattle.section.specs.declared.Header.{Header}
use Rattle.section.proofs.Laws.{sound-facts}
use Rattle.file.specs.Layout.{file_of, same_table, Rising, SoundTable}
use Rattle.file.specs.Scan.{heading, scan_of, table_in, found_at, found_in, sections_in}
use Rattle.file.proofs.Found.{sound-header}
use Rattle.file.proofs.Held.{Lies, held}
use Rattle.file.proofs.Heading.{Headed, headed}
use Rattle.file_listing.specs.Words.{lines}
use Rattle.file_listing.specs.Listing.{head_line, section_line, complete_line, section_of, end_of, table_text, text_of}
use Rattle.file_laws.proofs.Accepts.{accepted-as, in-one-way}
use Rattle.file_laws.proofs.Among.{mem-front, mem-last, mem-chosen}

module _ (section : ℕ → List ℕ) where
  unfoldable pub sections_to : ℕ → List (List ℕ)
  sections_to zero = []
  sections_to (suc n) = sections_to n ++ (section n ∷ [])

  -- n sections from number k on
  sections_from : ℕ → ℕ → List (List ℕ)
  sections_from k zero = []
  sections_from k (suc n) = section k ∷ sections_from (k + 1) n

  from_more : (k n : ℕ) → sections_from k (suc n) ≡ sections_from k n ++ (section (k + n) ∷ [])
  unfolding sections_from
  from_more k zero = ap (λ m. section m ∷ []) (let e : k ≡ k + 0 = omega arith in e)
  from_more k (suc n) =
      let e : k + 1 + n ≡ k + suc n = omega arith in
      ap (λ l. section k ∷ l) (from_more (k + 1) n ∙ ap (λ m. sections_from (k + 1) n ++ (section m ∷ [])) e)

  below-from : (n : ℕ) → sections_to n ≡ sections_from 0 n
  unfolding sections_to sections_from
  below-from zero = refl
  below-from (suc n) =
      ap (λ l. l ++ (section n ∷ [])) (below-from n)
      ∙ ap (λ m. sections_from 0 n ++ (section m ∷ [])) (let e : n ≡ 0 + n = omega arith in e)
      ∙ sym (from_more 0 n)

  pub count-to : (n : ℕ) → length (sections_to n) ≡ n
  unfolding sections_to
  count-to zero = refl
  count-to (suc n) = simp length-append (omega (arith, count-to n))

  in-sections : (n k : ℕ) → k < n → Memᴰ (section k) (sections_to n)
  unfolding sections_to
  in-sections zero k l = absurd (omega arith)
  in-sections (suc n) k l =
      ⊎_elim
      (λ e. subst (λ m. Memᴰ (section k) (sections_to n ++ (section m ∷ []))) e (mem-last (sections_to n)))
      (λ ne. mem-front (sections_to n) (section n ∷ []) (in-sections n k (omega arith)))
      (same_or k n)

  -- the sections of one table, from 0 to its last number
  pub record Numbered (last : ℕ) : Type 0 where
    pub few : last ≤ 15
    pub sound : (k : ℕ) → k ≤ last → read_of (section k) ≡ Ok (header_of (section k))
    pub shares : (k : ℕ) → k ≤ last → same_table (header_of (section 0)) (header_of (section k)) ≡ true
    pub number : (k : ℕ) → k ≤ last → (header_of (section k)).number ≡ k
    pub ends : (header_of (section 0)).last ≡ last

  module _ (last : ℕ) (each : Numbered last) where
    rising : (n k lowest : ℕ) → k + n ≤ last + 1 → lowest ≤ k → Rising (header_of (section 0)) lowest (sections_from k n)
    unfolding sections_from
    rising zero k lowest l h = tt
    rising (suc n) k lowest l h =
        let known : k ≤ last = omega arith in
        let number : (header_of (section k)).number ≡ k = each.number k known in
        (each.sound k known, each.shares k known, omega arith, rising n (k + 1) ((header_of (section k)).number + 1) (omega arith) (omega arith))

    sound-from : SoundTable (sections_from 0 (suc last))
    unfolding sections_from
    sound-from =
        let size : length (sections_from 0 (suc last)) ≡ suc last = sym (ap length (below-from (suc last))) ∙ count-to (suc last) in
        (omega (arith, each.few), rising (suc last) 0 0 (omega arith) (omega arith))

    all_from : sections_to (last + 1) ≡ sections_from 0 (suc last)
    all_from = ap sections_to (let e : last + 1 ≡ suc last = omega arith in e) ∙ below-from (suc last)

    pub sound-all : SoundTable (sections_to (last + 1))
    sound-all = subst SoundTable (sym all_from) sound-from

    abbrev pub file_of_all : List ℕ
    file_of_all = file_of (sections_to (last + 1))

    pub accepted-all : heading (scan_of file_of_all) ≡ Ok (header_of (section 0))
    unfolding sections_from
    accepted-all = ap (λ ss. heading (scan_of (file_of ss))) all_from ∙ accepted-as (section 0) (sections_from 1 last) sound-from

    pub holds-all : table_in file_of_all ≡ sections_to (last + 1)
    holds-all = in-one-way (sections_to (last + 1)) sound-all

    -- the table that is read
    read : Headed (scan_of file_of_all) (header_of (section 0))
    read = headed (scan_of file_of_all) (header_of (section 0)) accepted-all

    -- the byte length that the file has for section k
    abbrev lengths : List ℕ
    lengths = read.table.lengths

    abbrev bytes_at : ℕ → List ℕ
    bytes_at k = part file_of_all (get_or read.table.starts k 0) (get_or lengths k 0)

    found : found_in file_of_all read.table.starts lengths ≡ sections_to (last + 1)
    found = ap (sections_in file_of_all) (sym read.is) ∙ holds-all

    section-in : (k : ℕ) → k ≤ last → (n : ℕ) × (found_at lengths n ≡ true) × (section k ≡ bytes_at n)
    unfolding found_in
    section-in k l =
        mem-chosen (found_at lengths) bytes_at 16
        (subst (Memᴰ (section k)) (sym found) (in-sections (last + 1) k (omega arith)))

    its-length : (k : ℕ) → k ≤ last → get_or lengths k 0 ≡ length (section k)
    its-length k l = go (section-in k l)
      where
        go : ((n : ℕ) × (found_at lengths n ≡ true) × (section k ≡ bytes_at n)) → get_or lengths k 0 ≡ length (section k)
        go w =
            ⊎_elim
            (λ z. absurd (unlike (sym w.1 ∙ ap not (eq-eqb (get_or lengths w.0 0) 0 z))))
            (λ (f : Lies file_of_all read.table.header w.0 (get_or read.table.starts w.0 0) (get_or lengths w.0 0)).
            let reads : read_of (section k) ≡ Ok f.header = ap read_of w.2 ∙ f.sound in
            let h : f.header ≡ header_of (section k) = sound-header (section k) f.header reads in
            let n : w.0 ≡ k = sym f.number ∙ ap (λ (x : Header). x.number) h ∙ each.number k l in
            let size : length (bytes_at w.0) ≡ get_or lengths w.0 0 = length_part file_of_all _ (get_or lengths w.0 0) f.inside in
            ap (λ m. get_or lengths m 0) (sym n) ∙ sym size ∙ ap length (sym w.2))
            ((held file_of_all read.table read.is).each w.0)

    some : (k : ℕ) → k ≤ last → found_at lengths k ≡ true
    some k l =
        let least : 8 ≤ length (section k) = (sound-facts (section k) (header_of (section k)) (each.sound k l)).least in
        let n : get_or lengths k 0 ≡ length (section k) = its-length k l in
        ap not (ne_eqb (get_or lengths k 0) 0 (λ z. omega arith))

    -- the line of section k
    abbrev line_at : ℕ → List ℕ
    line_at k = section_line k (length (section k))

    its-line : (k : ℕ) → k ≤ last → section_of lengths k ≡ line_at k
    unfolding section_of
    its-line k l = rw (some k l, its-length k l)

    all_lines : (n : ℕ) → n ≤ last + 1 → lines n (section_of lengths) ≡ lines n line_at
    unfolding lines
    all_lines zero h = refl
    all_lines (suc n) h = rw (all_lines n (omega arith), its-line n (omega arith))

    complete : end_of last lengths ≡ complete_line
    unfolding end_of
    complete = rw (every-all (found_at lengths) (last + 1) (λ k l. some k (omega arith)))

    table-text : table_text (header_of (section 0)) lengths ≡ head_line (header_of (section 0)) ++ (lines (last + 1) line_at ++ complete_line)
    unfolding table_text
    table-text = rw (each.ends, all_lines (last + 1) (omega arith), complete)

    pub lists-all : text_of file_of_all ≡ head_line (header_of (section 0)) ++ (lines (last + 1) line_at ++ complete_line)
    unfolding text_of
    lists-all = rw (read.is, read.header) table-text
