-- "The first fault from the left gives the answer": behind sound sections of one table the answer is the next section's fault,
-- whatever stands after it.
--   lowest_after, first_some, first_or    the lowest number that a section behind others may have, and the header of the first section
--   Behind, behind          where the scan stands after them
--   first-fault             the next section's own fault: 11, its length and running past the file (12), its own number
--   other-table, not-rising     then key, version, last and rising number (12)
--   left-over               and where none is to come, bytes left over (12)
use mathlib.Core.Path.{◌≡◌, refl, sym, ap, subst, ◌∙◌}
use mathlib.Core.Bool.{true, false, ◌||◌}
use mathlib.Core.List.{List, [], ◌∷◌, ◌++◌, append_assoc}
use Prim.Native.Nat.{ℕ, suc, ◌+◌, ◌-◌, ◌<◌, ◌≤◌}
use native.Mathlib.Omega.{arith}
use lib.Dec.{ltb}
use lib.ListN.{length, take, drop, length-append, length-drop}
use borrow.Author.Tests.{lt-ltb, le-ltb, ltb-true, ltb-false}
use Rattle.base.specs.Bytes.{part}
use lib.Seq.{drop-drop, drop-append_seam}
use Rattle.base.proofs.Cases.{by}
use Rattle.std.specs.Prelude.{Result, Ok, Err}
use Rattle.std.specs.Prelude.{Option, None, Some}
use Rattle.std.specs.Option.{unwrap_or}
use Rattle.refusal.specs.declared.Refusal.{Refusal}
use Rattle.refusal.specs.declared.Refusal.TheVariants.{BadFile}
use Rattle.section.specs.Section.{read_of, header_of}
use Rattle.section.specs.declared.Header.{Header}
use Rattle.file_number.specs.Number.{numeral, largest, spelling, spelt, groups, worth, cut_off, not_shortest, number_in}
use Rattle.file_number.proofs.OneSpelling.{read-spelt}
use Rattle.file.specs.Layout.{form, fewest, most_counted, shortest, longest, listed, same_table, Rising}
use Rattle.file.specs.Scan.{lying, Seen, nothing, first_of, reading_of, length_of, section_at, sections_of, scan_of}
use Rattle.file.specs.declared.Part.{Part}
use Rattle.file.proofs.Sections.{faulty, other, fallen}
use Rattle.file.proofs.Front.{counted, formed}
use Rattle.file_laws.specs.Fault.{Begins, ToCome}
use Rattle.file_laws.proofs.Accepts.{Clear, clear-nothing, taken, taken-clear, taken-rest, its-end, step, count_at, first-at}

-- what is read at a place of the file, as what is read at the front of the bytes from that place on
abbrev pub moved : ℕ → Result Part Refusal → Result Part Refusal
moved at (Ok p) = Ok (lying p.header (at + p.start) p.length)
moved at (Err r) = Err r

module _ (file rest : List ℕ) (at : ℕ) (here : drop at file ≡ rest) (inside : at ≤ length file) where
  long : length file ≡ at + length rest
  long = let e : length file - at ≡ length rest = sym (length-drop at file) ∙ ap length here in omega arith

  bytes-moved : (start size : ℕ) → part file (at + start) size ≡ part rest start size
  bytes-moved start size = ap (take size) (sym (drop-drop start at file) ∙ ap (drop start) here)

  reading-moved : (start size : ℕ) (r : Result Header Refusal) → reading_of (at + start) size r ≡ moved at (reading_of start size r)
  reading-moved start size (Ok h) = refl
  reading-moved start size (Err n) = refl

  length_moved : (size start : ℕ) → length_of file (Ok (numeral size (at + start))) ≡ moved at (length_of rest (Ok (numeral size start)))
  length_moved size start =
      by (ltb size shortest || ltb longest size)
      (λ t. rw t)
      (λ t.
      by (ltb (length rest) (start + size))
      (λ u.
      let l : length rest < start + size = ltb-true _ _ u in
      let past : ltb (length file) (at + start + size) ≡ true = lt-ltb (length file) (at + start + size) (let g : length file ≡ at + length rest = long in omega arith) in
      rw (t, u, past))
      (λ u.
      let l : start + size ≤ length rest = ltb-false _ _ u in
      let past : ltb (length file) (at + start + size) ≡ false = le-ltb (length file) (at + start + size) (let g : length file ≡ at + length rest = long in omega arith) in
      rw (t, u, past, bytes-moved start size) (reading-moved start size (read_of (part rest start size)))))

  number-moved : (s : List ℕ) → length_of file (number_in s at) ≡ moved at (length_of rest (number_in s 0))
  unfolding number_in
  number-moved s =
      by (cut_off s || (not_shortest s || ltb largest (worth (groups s))))
      (λ t. rw t)
      (λ t.
      let e : at + length (groups s) ≡ at + (0 + length (groups s)) = omega arith in
      rw (t, e) (length_moved (worth (groups s)) (0 + length (groups s))))

  pub section-moved : section_at file at ≡ moved at (section_at rest 0)
  unfolding section_at
  section-moved = ap (λ s. length_of file (number_in s at)) here ∙ number-moved rest

-- the lowest number that a section behind others may have
abbrev pub lowest_after : ℕ → List (List ℕ) → ℕ
lowest_after low [] = low
lowest_after low (s ∷ ss) = lowest_after ((header_of s).number + 1) ss

-- the scan after some sections
record Walked (file rest : List ℕ) (first : Header) (low more n : ℕ) (seen : Seen) : Type 0 where
  after : Seen
  goes : sections_of (more + n) file seen ≡ sections_of n file after
  here : drop after.next file ≡ rest
  inside : after.next ≤ length file
  shares : after.first ≡ Some first
  lowest : after.lowest ≡ low

walks : (file rest : List ℕ) (first : Header) (n : ℕ) (ss : List (List ℕ)) (seen : Seen) → seen.first ≡ Some first → Clear seen
    → seen.next ≤ length file → drop seen.next file ≡ listed ss ++ rest → Rising first seen.lowest ss → Walked file rest first (lowest_after seen.lowest ss) (length ss) n seen
unfolding listed
walks file rest first n [] seen f c i here rising =
    record { after = seen; goes = ap (λ k. sections_of k file seen) (let e : 0 + n ≡ n = omega arith in e); here = here; inside = i; shares = f; lowest = refl }
walks file rest first n (s ∷ ss) seen f c i here rising =
    let first-is : first_of seen (header_of s) ≡ first = ap (λ o. unwrap_or o (header_of s)) f in
    let same : same_table (first_of seen (header_of s)) (header_of s) ≡ true = rw first-is rising.1 in
    let here' : drop seen.next file ≡ spelt (length s) ++ (s ++ (listed ss ++ rest))
    = here ∙ append_assoc (spelt (length s)) (s ++ listed ss) rest ∙ ap (λ l. spelt (length s) ++ l) (append_assoc s (listed ss) rest) in
    let w = walks file rest first n ss (taken file s (listed ss ++ rest) seen c here' rising.0 same rising.2) (ap Some first-is)
    (taken-clear file s (listed ss ++ rest) seen c here' rising.0 same rising.2)
    (its-end file s (listed ss ++ rest) seen.next here')
    (taken-rest file s (listed ss ++ rest) seen c here' rising.0 same rising.2) rising.3 in
    record {
      after = w.after;
      goes =
          ap (λ k. sections_of k file seen) (let e : suc (length ss) + n ≡ suc (length ss + n) = omega arith in e)
          ∙ step file s (listed ss ++ rest) seen c here' rising.0 same rising.2 (length ss + n)
          ∙ w.goes;
      here = w.here;
      inside = w.inside;
      shares = w.shares;
      lowest = w.lowest;
    }

-- the header of the first section, if there is one, and this one else
abbrev pub first_some : List (List ℕ) → Option Header
first_some [] = None
first_some (s ∷ ss) = Some (header_of s)

abbrev pub first_or : Header → List (List ℕ) → Header
first_or h ss = unwrap_or (first_some ss) h

-- the scan behind good sections, with so many to come
pub record Behind (file rest : List ℕ) (ss : List (List ℕ)) (left : ℕ) : Type 0 where
  pub seen : Seen
  pub goes : scan_of file ≡ sections_of left file seen
  pub here : drop seen.next file ≡ rest
  pub inside : seen.next ≤ length file
  pub first : (h : Header) → first_of seen h ≡ first_or h ss
  pub lowest : seen.lowest ≡ lowest_after 0 ss

module _ (n : ℕ) (some : fewest ≤ n) (few : n ≤ most_counted) (body : List ℕ) where
  -- a file with that count, and what stands after it
  abbrev counts : List ℕ
  counts = spelt form ++ (spelt n ++ body)

  count-here : drop count_at counts ≡ spelt n ++ body
  unfolding spelling
  count-here = refl

  body-here : drop (first-at n) counts ≡ body
  body-here =
      sym (drop-drop (length (spelt n)) count_at counts)
      ∙ ap (drop (length (spelt n))) count-here
      ∙ drop-append_seam (spelt n) body

  body-inside : first-at n ≤ length counts
  body-inside = simp length-append (omega arith)

  front : scan_of counts ≡ sections_of n counts (nothing (first-at n))
  front =
      sym (formed counts (numeral form count_at) (read-spelt form (omega arith) (spelt n ++ body) 0) refl)
      ∙ sym (counted counts count_at (numeral n (first-at n))
      (ap (λ d. number_in d count_at) count-here ∙ read-spelt n (omega arith) body count_at) some few)

module _ (s : List ℕ) (ss : List (List ℕ)) (rest : List ℕ) (n : ℕ) (some : fewest ≤ n) (few : n ≤ most_counted) (more : length (s ∷ ss) ≤ n)
    (rising : Rising (header_of s) 0 (s ∷ ss)) where
  abbrev file : List ℕ
  file = counts n some few (listed (s ∷ ss) ++ rest)

  here' : drop (first-at n) file ≡ spelt (length s) ++ (s ++ (listed ss ++ rest))
  unfolding listed
  here' =
      body-here n some few (listed (s ∷ ss) ++ rest)
      ∙ append_assoc (spelt (length s)) (s ++ listed ss) rest
      ∙ ap (λ l. spelt (length s) ++ l) (append_assoc s (listed ss) rest)

  abbrev one : Seen
  one = taken file s (listed ss ++ rest) (nothing (first-at n)) (clear-nothing (first-at n)) here' rising.0 rising.1 rising.2

  left : ℕ
  left = n - length (s ∷ ss)

  walked : Walked file rest (header_of s) (lowest_after 0 (s ∷ ss)) (length ss) left one
  walked =
      walks file rest (header_of s) left ss one refl
      (taken-clear file s (listed ss ++ rest) (nothing (first-at n)) (clear-nothing (first-at n)) here' rising.0 rising.1 rising.2)
      (its-end file s (listed ss ++ rest) (first-at n) here')
      (taken-rest file s (listed ss ++ rest) (nothing (first-at n)) (clear-nothing (first-at n)) here' rising.0 rising.1 rising.2)
      rising.3

  behind-some : Behind file rest (s ∷ ss) (n - length (s ∷ ss))
  unfolding left
  behind-some =
      record {
        seen = walked.after;
        goes =
            front n some few (listed (s ∷ ss) ++ rest)
            ∙ ap (λ k. sections_of k file (nothing (first-at n))) (let e : n ≡ suc (length ss + (n - length (s ∷ ss))) = omega arith in e)
            ∙ step file s (listed ss ++ rest) (nothing (first-at n)) (clear-nothing (first-at n)) here' rising.0 rising.1 rising.2 (length ss + left)
            ∙ walked.goes;
        here = walked.here;
        inside = walked.inside;
        first = λ h. ap (λ o. unwrap_or o h) walked.shares;
        lowest = walked.lowest;
      }

-- where the scan stands after the file's first sections
pub behind : (file : List ℕ) (n : ℕ) (ss : List (List ℕ)) (rest : List ℕ) → Begins file n ss rest → length ss ≤ n
    → Behind file rest ss (n - length ss)
unfolding listed
behind file n [] rest b l =
    subst (λ f. Behind f rest [] (n - 0)) (sym b.stands)
    (record {
      seen = nothing (first-at n);
      goes = front n b.some b.few rest ∙ ap (λ k. sections_of k (counts n b.some b.few rest) (nothing (first-at n))) (let e : n ≡ n - 0 = omega arith in e);
      here = body-here n b.some b.few rest;
      inside = body-inside n b.some b.few rest;
      first = λ h. refl;
      lowest = refl;
    })
behind file n (s ∷ ss) rest b l =
    subst (λ f. Behind f rest (s ∷ ss) (n - length (s ∷ ss))) (sym b.stands) (behind-some s ss rest n b.some b.few l b.good)

module _ (file : List ℕ) (ss : List (List ℕ)) (rest : List ℕ) (w : ToCome file ss rest) where
  at_next : Behind file rest ss (w.n - length ss)
  at_next = behind file w.n ss rest w.begins (let l : length ss < w.n = w.left in omega arith)

  next-part : section_at file at_next.seen.next ≡ moved at_next.seen.next (section_at rest 0)
  next-part = section-moved file rest at_next.seen.next at_next.here at_next.inside

  some_left : w.n - length ss ≡ 0 → ⊥
  some_left e = let l : length ss < w.n = w.left in omega arith

  pub first-fault : (m : Refusal) → section_at rest 0 ≡ Err m → scan_of file ≡ Err m
  first-fault m e =
      at_next.goes ∙ faulty file at_next.seen (w.n - length ss) some_left m (next-part ∙ ap (moved at_next.seen.next) e)

  module _ (h : Header) (start size : ℕ) (e : section_at rest 0 ≡ Ok (lying h start size)) where
    next-section : section_at file at_next.seen.next ≡ Ok (lying h (at_next.seen.next + start) size)
    next-section = next-part ∙ ap (moved at_next.seen.next) e

    pub other-table : same_table (first_or h ss) h ≡ false → scan_of file ≡ Err BadFile
    other-table d =
        at_next.goes
        ∙ other file at_next.seen (w.n - length ss) some_left (lying h (at_next.seen.next + start) size) next-section
        (ap (λ k. same_table k h) (at_next.first h) ∙ d)

    pub not-rising : same_table (first_or h ss) h ≡ true → h.number < lowest_after 0 ss → scan_of file ≡ Err BadFile
    not-rising d l =
        at_next.goes
        ∙ fallen file at_next.seen (w.n - length ss) some_left (lying h (at_next.seen.next + start) size) next-section
        (ap (λ k. same_table k h) (at_next.first h) ∙ d)
        (rw at_next.lowest l)

over : (file : List ℕ) (seen : Seen) → seen.next < length file → sections_of 0 file seen ≡ Err BadFile
unfolding sections_of
over file seen l = rw (lt-ltb seen.next (length file) l)

pub left_over : (file : List ℕ) (ss : List (List ℕ)) (rest : List ℕ) → Begins file (length ss) ss rest → 0 < length rest
    → scan_of file ≡ Err BadFile
left_over file ss rest b l =
    let w = behind file (length ss) ss rest b (omega arith) in
    let e : length file - w.seen.next ≡ length rest = sym (length-drop w.seen.next file) ∙ ap length w.here in
    w.goes
    ∙ ap (λ k. sections_of k file w.seen) (let z : length ss - length ss ≡ 0 = omega arith in z)
    ∙ over file w.seen (omega arith)
