-- A file of a sound table is accepted, and what is found in it are the table's sections.
--   accepted-as      the reading of the file of a sound table gives its first section's header
--   in-one-way       and finds its sections, each once and in order
use mathlib.Core.Path.{◌≡◌, refl, sym, ap, ◌∙◌}
use mathlib.Core.Bool.{true, false, not}
use mathlib.Core.List.{List, [], ◌∷◌, ◌++◌, append_assoc, append-nil}
use Prim.Native.Nat.{ℕ, suc, ◌+◌, ◌-◌, ◌<◌, ◌≤◌}
use native.Mathlib.Omega.{arith}
use lib.Dec.{eqb}
use lib.ListN.{length, take, drop, get_or, set, length-append, length-drop, length-set}
use lib.Seq.{drop-drop, drop-append_seam, take-append_seam, get_or-set_same, get_or-set_other}
use borrow.Author.Tests.{le-ltb, eq-eqb, ne_eqb}
use Rattle.base.specs.Bytes.{part}
use Rattle.std.specs.Prelude.{Ok}
use Rattle.std.specs.Prelude.{Some}
use Rattle.std.specs.Option.{unwrap_or}
use Rattle.section.specs.Section.{read_of, header_of}
use Rattle.section.specs.declared.Header.{Header}
use Rattle.file_number.specs.Number.{numeral, spelling, spelt, number_in, number_at}
use Rattle.file_number.proofs.OneSpelling.{read-spelt}
use Rattle.file_number.proofs.Bounds.{spelt-some}
use Rattle.file.specs.Layout.{form, most_counted, shortest, longest, listed, file_of, chosen, same_table, Rising, SoundTable}
use Rattle.file.specs.Scan.{heading, lying, Seen, accepted, nothing, first_of, added, reading_of, section_at, sections_of, scan_of, found_at, found_in, sections_in, table_of, table_in}
use Rattle.file.proofs.Parts.{read_as}
use Rattle.file.proofs.Found.{sound-size, sound-number}
use Rattle.file.proofs.Sections.{next}
use Rattle.file.proofs.Held.{none-held}
use Rattle.file.proofs.Front.{counted, formed}
use Rattle.file_laws.proofs.Chosen.{chosen-added}

-- a section that is listed at a place of the file
module _ (file s rest : List ℕ) (at : ℕ) (here : drop at file ≡ spelt (length s) ++ (s ++ rest)) where
  abbrev pub start : ℕ
  start = at + length (spelt (length s))

  bytes-here : drop start file ≡ s ++ rest
  bytes-here = sym (drop-drop (length (spelt (length s))) at file) ∙ ap (drop (length (spelt (length s)))) here ∙ drop-append_seam (spelt (length s)) (s ++ rest)

  pub its-bytes : part file start (length s) ≡ s
  its-bytes = ap (take (length s)) bytes-here ∙ take-append_seam s rest

  pub its-rest : drop (start + length s) file ≡ rest
  its-rest = sym (drop-drop (length s) start file) ∙ ap (drop (length s)) bytes-here ∙ drop-append_seam s rest

  pub its-end : start + length s ≤ length file
  its-end =
      let a : length file - at ≡ length (spelt (length s)) + (length s + length rest)
      = sym (length-drop at file) ∙ ap length here ∙ simp length-append in
      let b : 1 ≤ length (spelt (length s)) = spelt-some (length s) in
      omega arith

  pub its-part : (h : Header) → read_of s ≡ Ok h → section_at file at ≡ Ok (lying h start (length s))
  its-part h r =
      let w : (shortest ≤ length s) × (length s ≤ longest) = sound-size s h r in
      let i : start + length s ≤ length file = its-end in
      let e : number_at file at ≡ Ok (numeral (length s) start)
      = ap (λ d. number_in d at) here ∙ read-spelt (length s) (omega arith) (s ++ rest) at in
      read_as file at (numeral (length s) start) e w.0 w.1 (length s) refl (omega arith) ∙ ap (reading_of start (length s)) (ap read_of its-bytes ∙ r)

-- no section is seen yet from the lowest allowed number on
pub record Clear (seen : Seen) : Type 0 where
  pub places : length seen.starts ≡ most_counted
  pub sizes : length seen.lengths ≡ most_counted
  pub none : (k : ℕ) → seen.lowest ≤ k → get_or seen.lengths k 0 ≡ 0

module _ (file : List ℕ) (seen : Seen) (c : Clear seen) (h : Header) (start size : ℕ) (rises : seen.lowest ≤ h.number) (few : h.number ≤ 15) where
  clear-added : Clear (added seen h start size)
  clear-added =
      record {
        places = length-set seen.starts h.number start ∙ c.places;
        sizes = length-set seen.lengths h.number size ∙ c.sizes;
        none = λ k l. get_or-set_other seen.lengths h.number k size 0 (λ e. omega arith) ∙ c.none k (omega arith);
      }

  held_none : (lengths : List ℕ) (k : ℕ) → get_or lengths k 0 ≡ 0 → found_at lengths k ≡ false
  held_none lengths k e = rw (eq-eqb (get_or lengths k 0) 0 e)

  found-added : (s : List ℕ) → part file start size ≡ s → (size ≡ 0 → ⊥)
      → found_in file (set seen.starts h.number start) (set seen.lengths h.number size)
      ≡ found_in file seen.starts seen.lengths ++ (s ∷ [])
  unfolding found_in
  found-added s e z =
      let lengths = set seen.lengths h.number size in
      let starts = set seen.starts h.number start in
      let q : length seen.lengths ≡ most_counted = c.sizes in
      let q' : length seen.starts ≡ most_counted = c.places in
      let l : h.number < length seen.lengths = omega arith in
      let l' : h.number < length seen.starts = omega arith in
      let a : get_or lengths h.number 0 ≡ size = get_or-set_same seen.lengths h.number size 0 l in
      let b : get_or starts h.number 0 ≡ start = get_or-set_same seen.starts h.number start 0 l' in
      let other : (k : ℕ) → (k ≡ h.number → ⊥) → get_or lengths k 0 ≡ get_or seen.lengths k 0
      = λ k d. get_or-set_other seen.lengths h.number k size 0 d in
      let other' : (k : ℕ) → (k ≡ h.number → ⊥) → get_or starts k 0 ≡ get_or seen.starts k 0
      = λ k d. get_or-set_other seen.starts h.number k start 0 d in
      chosen-added (found_at seen.lengths) (found_at lengths)
      (λ n. part file (get_or seen.starts n 0) (get_or seen.lengths n 0))
      (λ n. part file (get_or starts n 0) (get_or lengths n 0))
      h.number most_counted (omega arith)
      (λ k m. held_none seen.lengths k (c.none k (omega arith)))
      (λ k m. held_none lengths k (other k (λ d. omega arith) ∙ c.none k (omega arith)))
      (ap (λ n. not (eqb n 0)) a ∙ ap not (ne_eqb size 0 z))
      (λ k m. ap (λ n. not (eqb n 0)) (other k (λ d. omega arith)))
      (λ k m. ap (λ n. part file (get_or starts k 0) n) (other k (λ d. omega arith)) ∙ ap (λ n. part file n (get_or seen.lengths k 0)) (other' k (λ d. omega arith)))
      ∙ ap (λ p. found_in file seen.starts seen.lengths ++ (p ∷ [])) (ap (λ n. part file n (get_or lengths h.number 0)) b ∙ ap (λ n. part file start n) a ∙ e)

-- what the scan of n sections from here on answers and finds
pub record Reads (file : List ℕ) (seen : Seen) (first : Header) (n : ℕ) (ss : List (List ℕ)) : Type 0 where
  pub answers : heading (sections_of n file seen) ≡ Ok first
  pub finds : sections_in file (sections_of n file seen) ≡ found_in file seen.starts seen.lengths ++ ss

-- one section is taken
module _ (file s rest : List ℕ) (seen : Seen) (c : Clear seen) (here : drop seen.next file ≡ spelt (length s) ++ (s ++ rest))
    (r : read_of s ≡ Ok (header_of s)) (same : same_table (first_of seen (header_of s)) (header_of s) ≡ true)
    (rises : seen.lowest ≤ (header_of s).number) where
  abbrev pub taken : Seen
  taken = added seen (header_of s) (start file s rest seen.next here) (length s)

  few : (header_of s).number ≤ 15
  few = let k : ((header_of s).number ≤ (header_of s).last) × ((header_of s).last ≤ 15) = sound-number s (header_of s) r in omega arith

  some : length s ≡ 0 → ⊥
  some z = let w : (shortest ≤ length s) × (length s ≤ longest) = sound-size s (header_of s) r in omega arith

  pub step : (n : ℕ) → sections_of (suc n) file seen ≡ sections_of n file taken
  step n =
      let e : suc n - 1 ≡ n = omega arith in
      next file seen (suc n) (λ z. omega arith) (lying (header_of s) (start file s rest seen.next here) (length s))
      (its-part file s rest seen.next here (header_of s) r) same rises
      ∙ ap (λ k. sections_of k file taken) e

  pub one-taken : (first : Header) (n : ℕ) (ss : List (List ℕ)) → Reads file taken first n ss → Reads file seen first (suc n) (s ∷ ss)
  one-taken first n ss k =
      let found : found_in file taken.starts taken.lengths ≡ found_in file seen.starts seen.lengths ++ (s ∷ [])
      = found-added file seen c (header_of s) (start file s rest seen.next here) (length s) rises few s
      (its-bytes file s rest seen.next here) some in
      record {
        answers = ap heading (step n) ∙ k.answers;
        finds =
            ap (sections_in file) (step n)
            ∙ k.finds
            ∙ ap (λ l. l ++ ss) found
            ∙ append_assoc (found_in file seen.starts seen.lengths) (s ∷ []) ss;
      }

  pub taken-clear : Clear taken
  taken-clear = clear-added file seen c (header_of s) (start file s rest seen.next here) (length s) rises few

  pub taken-rest : drop taken.next file ≡ rest
  taken-rest = its-rest file s rest seen.next here

at-end : (file : List ℕ) (at : ℕ) → drop at file ≡ [] → length file ≤ at
at-end file at e = let a : length file - at ≡ 0 = sym (length-drop at file) ∙ ap length e in omega arith

ends : (file : List ℕ) (seen : Seen) → length file ≤ seen.next → sections_of 0 file seen ≡ accepted seen
unfolding sections_of
ends file seen l = rw (le-ltb seen.next (length file) l)

reads : (file : List ℕ) (first : Header) (ss : List (List ℕ)) (seen : Seen) → seen.first ≡ Some first → Clear seen
    → drop seen.next file ≡ listed ss → Rising first seen.lowest ss → Reads file seen first (length ss) ss
unfolding listed
reads file first [] seen f c here rising =
    let e : sections_of 0 file seen ≡ accepted seen = ends file seen (at-end file seen.next here) in
    record {
      answers = ap heading e ∙ ap (λ o. heading (table_of seen.starts seen.lengths o)) f;
      finds =
          ap (sections_in file) e
          ∙ ap (λ o. sections_in file (table_of seen.starts seen.lengths o)) f
          ∙ sym (append-nil (found_in file seen.starts seen.lengths));
    }
reads file first (s ∷ ss) seen f c here rising =
    let first-is : first_of seen (header_of s) ≡ first = ap (λ o. unwrap_or o (header_of s)) f in
    let same : same_table (first_of seen (header_of s)) (header_of s) ≡ true = rw first-is rising.1 in
    one-taken file s (listed ss) seen c here rising.0 same rising.2 first (length ss) ss
    (reads file first ss (taken file s (listed ss) seen c here rising.0 same rising.2) (ap Some first-is)
    (taken-clear file s (listed ss) seen c here rising.0 same rising.2)
    (taken-rest file s (listed ss) seen c here rising.0 same rising.2)
    rising.3)

none_found : (file : List ℕ) (at : ℕ) → found_in file (nothing at).starts (nothing at).lengths ≡ []
unfolding found_in chosen
none_found file at = refl

pub clear-nothing : (at : ℕ) → Clear (nothing at)
clear-nothing at = record { places = refl; sizes = refl; none = λ k _. none-held k }

-- from the first section on
all_read : (file s : List ℕ) (ss : List (List ℕ)) (at : ℕ) → drop at file ≡ listed (s ∷ ss) → Rising (header_of s) 0 (s ∷ ss)
    → Reads file (nothing at) (header_of s) (length (s ∷ ss)) (s ∷ ss)
unfolding listed
all_read file s ss at here rising =
    one-taken file s (listed ss) (nothing at) (clear-nothing at) here rising.0 rising.1 rising.2 (header_of s) (length ss) ss
    (reads file (header_of s) ss
    (taken file s (listed ss) (nothing at) (clear-nothing at) here rising.0 rising.1 rising.2) refl
    (taken-clear file s (listed ss) (nothing at) (clear-nothing at) here rising.0 rising.1 rising.2)
    (taken-rest file s (listed ss) (nothing at) (clear-nothing at) here rising.0 rising.1 rising.2)
    rising.3)

-- the places where the count and the first section stand
abbrev pub count_at : ℕ
count_at = 0 + length (spelt form)

abbrev pub first-at : ℕ → ℕ
first-at n = count_at + length (spelt n)

-- the front of a file
module _ (ss : List (List ℕ)) where
  counts-here : drop count_at (file_of ss) ≡ spelt (length ss) ++ listed ss
  unfolding file_of spelling
  counts-here = refl

  lists-here : drop (first-at (length ss)) (file_of ss) ≡ listed ss
  lists-here =
      sym (drop-drop (length (spelt (length ss))) count_at (file_of ss))
      ∙ ap (drop (length (spelt (length ss)))) counts-here
      ∙ drop-append_seam (spelt (length ss)) (listed ss)

  form-here : number_at (file_of ss) 0 ≡ Ok (numeral form count_at)
  unfolding file_of
  form-here = read-spelt form (omega arith) (spelt (length ss) ++ listed ss) 0

  count-here : length ss ≤ most_counted → number_at (file_of ss) count_at ≡ Ok (numeral (length ss) (first-at (length ss)))
  count-here few = ap (λ d. number_in d count_at) counts-here ∙ read-spelt (length ss) (omega arith) (listed ss) count_at

  scan-front : 1 ≤ length ss → length ss ≤ most_counted → scan_of (file_of ss) ≡ sections_of (length ss) (file_of ss) (nothing (first-at (length ss)))
  scan-front some few =
      sym (formed (file_of ss) (numeral form count_at) form-here refl)
      ∙ sym (counted (file_of ss) count_at (numeral (length ss) (first-at (length ss))) (count-here few) some few)

module _ (s : List ℕ) (ss : List (List ℕ)) (t : SoundTable (s ∷ ss)) where
  all : Reads (file_of (s ∷ ss)) (nothing (first-at (length (s ∷ ss)))) (header_of s) (length (s ∷ ss)) (s ∷ ss)
  all = all_read (file_of (s ∷ ss)) s ss (first-at (length (s ∷ ss))) (lists-here (s ∷ ss)) t.1

  pub accepted-as : heading (scan_of (file_of (s ∷ ss))) ≡ Ok (header_of s)
  accepted-as = ap heading (scan-front (s ∷ ss) (omega arith) t.0) ∙ all.answers

  found_all : table_in (file_of (s ∷ ss)) ≡ s ∷ ss
  found_all =
      ap (sections_in (file_of (s ∷ ss))) (scan-front (s ∷ ss) (omega arith) t.0)
      ∙ all.finds
      ∙ ap (λ l. l ++ (s ∷ ss)) (none_found (file_of (s ∷ ss)) (first-at (length (s ∷ ss))))

pub in-one-way : (ss : List (List ℕ)) → SoundTable ss → table_in (file_of ss) ≡ ss
in-one-way [] t = absurd t
in-one-way (s ∷ ss) t = found_all s ss t
