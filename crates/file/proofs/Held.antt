-- What an accepted file holds: for each number nothing, or a sound section of that number that lies in the file.
--   held        so it is of every accepted file
use mathlib.Core.Path.{◌≡◌, refl, sym, ap, subst, ◌∙◌}
use mathlib.Core.Bool.{true, ◌||◌}
use mathlib.Core.Logic.{◌⊎◌, ⊎_elim, inl, inr}
use mathlib.Core.List.{List}
use Prim.Native.Nat.{ℕ, zero, suc, ◌+◌, ◌<◌, ◌≤◌}
use native.Mathlib.Omega.{arith}
use lib.Dec.{ltb, eqb}
use lib.ListN.{length, get_or, set, replicate, length-set, get_or-replicate, get_or-eq_default}
use lib.Seq.{get_or-set_same, get_or-set_other}
use borrow.Author.Tests.{ltb-true, ltb-false}
use Rattle.base.specs.Bytes.{part}
use Rattle.base.proofs.Cases.{by, same_or}
use Rattle.section.specs.Section.{read_of}
use Rattle.section.specs.declared.Header.{Header}
use Rattle.std.specs.Prelude.{Result, Ok, Err}
use Rattle.refusal.specs.declared.Refusal.{Refusal}
use Rattle.refusal.specs.declared.Refusal.TheVariants.{BadFile}
use Rattle.std.specs.Prelude.{Option, None, Some}
use Rattle.std.specs.Option.{unwrap_or}
use Rattle.file_number.specs.Number.{number_at}
use Rattle.file_number.specs.declared.Number.{Number}
use Rattle.file.specs.Layout.{form, fewest, most_counted, shortest, longest, same_table}
use Rattle.file.specs.Scan.{Seen, nothing, accepted, table_of, first_of, lying, added, section_at, sections_of, follow_of, count_of, form_of, scan_of}
use Rattle.file.specs.declared.Part.{Part}
use Rattle.file.specs.declared.Table.{Table}
use Rattle.file.proofs.Found.{found, sound-number}

-- a section of number n that lies in the file, and shares the table of the first
pub record Lies (file : List ℕ) (first : Header) (n start size : ℕ) : Type 0 where
  pub header : Header
  pub low : shortest ≤ size
  pub high : size ≤ longest
  pub inside : start + size ≤ length file
  pub sound : read_of (part file start size) ≡ Ok header
  pub number : header.number ≡ n
  pub shares : same_table first header ≡ true

-- by number, nothing or a section
pub record Holds (file : List ℕ) (first : Header) (starts lengths : List ℕ) : Type 0 where
  pub places : length starts ≡ most_counted
  pub sizes : length lengths ≡ most_counted
  pub last : first.last ≤ 15
  pub some : (n : ℕ) × (shortest ≤ get_or lengths n 0)
  pub each : (n : ℕ) → (get_or lengths n 0 ≡ 0) ⊎ Lies file first n (get_or starts n 0) (get_or lengths n 0)

-- no section is held
abbrev pub blank : List ℕ
blank = replicate most_counted 0

pub none-held : (n : ℕ) → get_or blank n 0 ≡ 0
none-held n =
    by (ltb n most_counted)
    (λ t. get_or-replicate most_counted n 0 0 (ltb-true _ _ t))
    (λ f. let l : length blank ≤ n = ltb-false _ _ f in get_or-eq_default blank 0 l)

-- before the first section there is no table yet
pub record Good (file : List ℕ) (seen : Seen) : Type 0 where
  pub places : length seen.starts ≡ most_counted
  pub sizes : length seen.lengths ≡ most_counted
  pub begins : seen.first ≡ None → seen.lengths ≡ blank
  pub held : (first : Header) → seen.first ≡ Some first → Holds file first seen.starts seen.lengths

module _ (file : List ℕ) (first h : Header) (start size : ℕ) (at : ℕ)
    (e : section_at file at ≡ Ok (lying h start size)) (s : same_table first h ≡ true) (starts lengths : List ℕ)
    (places : length starts ≡ most_counted) (sizes : length lengths ≡ most_counted) where
  abbrev Here : ℕ → Type 0
  Here n =
      (get_or (set lengths h.number size) n 0 ≡ 0)
      ⊎ Lies file first n (get_or (set starts h.number start) n 0) (get_or (set lengths h.number size) n 0)

  here-set : Here h.number
  here-set =
      let f = found h start size file at e in
      let k = sound-number (part file start size) h f.sound in
      let low : h.number < length lengths = omega arith in
      let low' : h.number < length starts = omega arith in
      inr
      (rw (get_or-set_same lengths h.number size 0 low, get_or-set_same starts h.number start 0 low')
      (record { header = h; low = f.low; high = f.high; inside = f.inside; sound = f.sound; number = refl; shares = s }))

  each_set : ((n : ℕ) → (get_or lengths n 0 ≡ 0) ⊎ Lies file first n (get_or starts n 0) (get_or lengths n 0)) → (n : ℕ) → Here n
  each_set each n =
      ⊎_elim
      (λ q. subst Here (sym q) here-set)
      (λ d. rw (get_or-set_other lengths h.number n size 0 d, get_or-set_other starts h.number n start 0 d) (each n))
      (same_or n h.number)

-- before a section there is nothing, or what is held of the first one's table
earlier : (file : List ℕ) (seen : Seen) (h : Header) → h.last ≤ 15 → Good file seen → (o : Option Header) → seen.first ≡ o
    → ((unwrap_or o h).last ≤ 15)
    × ((n : ℕ) → (get_or seen.lengths n 0 ≡ 0) ⊎ Lies file (unwrap_or o h) n (get_or seen.starts n 0) (get_or seen.lengths n 0))
earlier file seen h l g (Some f) e = ((g.held f e).last, (g.held f e).each)
earlier file seen h l g None e = (l, λ n. inl (ap (λ l. get_or l n 0) (g.begins e) ∙ none-held n))

good-added : (file : List ℕ) (seen : Seen) (h : Header) (start size : ℕ) → section_at file seen.next ≡ Ok (lying h start size)
    → same_table (first_of seen h) h ≡ true → Good file seen → Good file (added seen h start size)
good-added file seen h start size e s g =
    let f = found h start size file seen.next e in
    let k = sound-number (part file start size) h f.sound in
    let z : length seen.lengths ≡ most_counted = g.sizes in
    let low : h.number < length seen.lengths = omega arith in
    let before = earlier file seen h k.1 g seen.first refl in
    record {
      places = length-set seen.starts h.number start ∙ g.places;
      sizes = length-set seen.lengths h.number size ∙ g.sizes;
      begins = λ b. absurd (let q : ◌≡◌ {A = Option Header} (Some (first_of seen h)) None = b in cc);
      held =
          λ first q.
          let same : first_of seen h ≡ first = cc in
          subst (λ f. Holds file f (set seen.starts h.number start) (set seen.lengths h.number size)) same
          (record {
            places = length-set seen.starts h.number start ∙ g.places;
            sizes = length-set seen.lengths h.number size ∙ g.sizes;
            last = before.0;
            some = (h.number, rw (get_or-set_same seen.lengths h.number size 0 low) f.low);
            each = each_set file (first_of seen h) h start size seen.next e s seen.starts seen.lengths g.places g.sizes before.1;
          });
    }

good-nothing : (file : List ℕ) (at : ℕ) → Good file (nothing at)
good-nothing file at =
    record { places = refl; sizes = refl; begins = λ _. refl; held = λ first q. absurd (let e : ◌≡◌ {A = Option Header} None (Some first) = q in cc) }

-- what is so of an answer: a table that it gives is held
abbrev Answers : List ℕ → Result Table Refusal → Type 0
Answers file r = (table : Table) → r ≡ Ok table → Holds file table.header table.starts table.lengths

no_answer : (file : List ℕ) (r : Refusal) → Answers file (Err r)
no_answer file r table e = absurd (let q : ◌≡◌ {A = Result Table Refusal} (Err r) (Ok table) = e in cc)

ends-held : (file : List ℕ) (seen : Seen) → Good file seen → Answers file (accepted seen)
ends-held file seen g = go seen.first refl
  where
    go : (o : Option Header) → seen.first ≡ o → Answers file (table_of seen.starts seen.lengths o)
    go None e = no_answer file BadFile
    go (Some f) e =
        λ table q.
        let same : ◌≡◌ {A = Table} (record { header = f; starts = seen.starts; lengths = seen.lengths }) table = cc in
        subst (λ (t : Table). Holds file t.header t.starts t.lengths) same (g.held f e)

sections-held : (file : List ℕ) (left : ℕ) (seen : Seen) → Good file seen → Answers file (sections_of left file seen)
unfolding sections_of
sections-held file zero seen g =
    by (ltb seen.next (length file)) (λ t. rw t (no_answer file BadFile)) (λ f. rw f (ends-held file seen g))
sections-held file (suc left) seen g = go (sections-held file left) (section_at file seen.next) refl
  where
    go : ((seen : Seen) → Good file seen → Answers file (sections_of left file seen))
        → (p : Result Part Refusal) → section_at file seen.next ≡ p → Answers file (follow_of (sections_of left file) seen p)
    go more (Err r) e = no_answer file r
    go more (Ok p) e =
        by (same_table (first_of seen p.header) p.header)
        (λ s.
        by (ltb p.header.number seen.lowest)
        (λ t. rw (s, t) (no_answer file BadFile))
        (λ f. rw (s, f) (more (added seen p.header p.start p.length) (good-added file seen p.header p.start p.length e s g))))
        (λ s. rw s (no_answer file BadFile))

count_held : (file : List ℕ) (n : Result Number Refusal) → Answers file (count_of file n)
count_held file (Err r) = no_answer file r
count_held file (Ok count) =
    by (ltb count.value fewest || ltb most_counted count.value)
    (λ t. rw t (no_answer file BadFile))
    (λ f. rw f (sections-held file count.value (nothing count.next) (good-nothing file count.next)))

form-held : (file : List ℕ) (n : Result Number Refusal) → Answers file (form_of file n)
form-held file (Err r) = no_answer file r
form-held file (Ok found) =
    by (eqb found.value form) (λ t. rw t (count_held file (number_at file found.next))) (λ f. rw f (no_answer file BadFile))

module _ (file : List ℕ) (table : Table) (e : scan_of file ≡ Ok table) where
  pub held : Holds file table.header table.starts table.lengths
  unfolding scan_of
  held = form-held file (number_at file 0) table e
