-- What is accepted is the file of a sound table.
--   spelt-here, listed_here    a number that is read, and a section that is found, as they stand in the file
--   only-files      an accepted file is one, and here are its sections
use mathlib.Core.Path.{◌≡◌, refl, sym, ap, subst, ◌∙◌}
use mathlib.Core.Bool.{true, ◌||◌}
use mathlib.Core.List.{List, [], ◌∷◌, ◌++◌}
use Prim.Native.Nat.{ℕ, zero, suc, ◌+◌, ◌≤◌}
use native.Mathlib.Omega.{arith}
use lib.Dec.{ltb, eqb}
use lib.ListN.{length, drop, length-drop, take-append-drop, drop_of_length-le}
use lib.Seq.{drop-drop, drop-append_seam, length-take-le, get_or-drop}
use borrow.Author.Tests.{ltb-false, eqb-true}
use Rattle.base.specs.Bytes.{part}
use Rattle.base.proofs.Cases.{by, or_left, or_right}
use Rattle.std.specs.Prelude.{Result, Ok, Err}
use Rattle.std.specs.Prelude.{Some}
use Rattle.std.specs.Option.{unwrap_or}
use Rattle.refusal.specs.declared.Refusal.{Refusal}
use Rattle.refusal.specs.declared.Refusal.TheVariants.{BadFile}
use Rattle.section.specs.Section.{read_of, header_of}
use Rattle.section.specs.declared.Header.{Header}
use Rattle.file_number.specs.Number.{numeral, spelt, number_at, Bytes}
use Rattle.file_number.specs.declared.Number.{Number}
use Rattle.file_number.proofs.OneSpelling.{only-spelt}
use Rattle.file.specs.Layout.{form, fewest, most_counted, listed, file_of, same_table, Rising, SoundTable}
use Rattle.file.specs.Scan.{heading, Seen, nothing, first_of, added, section_at, sections_of, follow_of, count_of, form_of, scan_of}
use Rattle.file.specs.declared.Part.{Part}
use Rattle.file.proofs.Found.{Found, found, sound-header}

pub bytes_drop : (file : List ℕ) → Bytes file → (n : ℕ) → Bytes (drop n file)
bytes_drop file b n k = rw (get_or-drop n file k 0) (b (n + k))

-- a number that is read stands there, and what follows it
pub spelt-here : (file : List ℕ) → Bytes file → (at n next : ℕ) → number_at file at ≡ Ok (numeral n next) → drop at file ≡ spelt n ++ drop next file
spelt-here file b at n next q =
    let w = only-spelt at n next (drop at file) (bytes_drop file b at) q in
    let rest : drop next file ≡ w.rest
    = ap (λ k. drop k file) w.after
    ∙ sym (drop-drop (length (spelt n)) at file)
    ∙ ap (drop (length (spelt n))) w.here
    ∙ drop-append_seam (spelt n) w.rest in
    w.here ∙ ap (λ l. spelt n ++ l) (sym rest)

-- some bytes, and those after them
pub parted : (file : List ℕ) (start size : ℕ) → drop start file ≡ part file start size ++ drop (start + size) file
parted file start size = sym (take-append-drop size (drop start file)) ∙ ap (λ l. part file start size ++ l) (drop-drop size start file)

apart : {A : Type 0} (r : Refusal) (h : Header) → heading (Err r) ≡ Ok h → A
apart r h e = cc

-- the next section, as the file lists it
record Peeled (file : List ℕ) (seen : Seen) (n : ℕ) (last : Header) : Type 0 where
  section : List ℕ
  start : ℕ
  stands : drop seen.next file ≡ spelt (length section) ++ (section ++ drop (start + length section) file)
  sound : read_of section ≡ Ok (header_of section)
  same : same_table (first_of seen (header_of section)) (header_of section) ≡ true
  rises : seen.lowest ≤ (header_of section).number
  goes_on : heading (sections_of n file (added seen (header_of section) start (length section))) ≡ Ok last

-- a section that is found, as the file lists it
module _ (file : List ℕ) (b : Bytes file) (at : ℕ) (h : Header) (start size : ℕ) (f : Found h start size file (number_at file at)) where
  pub sized : length (part file start size) ≡ size
  sized = length-take-le size (drop start file) (rw (length-drop start file) (let i : start + size ≤ length file = f.inside in omega arith))

  pub listed_here : drop at file ≡ spelt size ++ (part file start size ++ drop (start + size) file)
  listed_here = spelt-here file b at size start f.stands ∙ ap (λ l. spelt size ++ l) (parted file start size)

module _ (file : List ℕ) (b : Bytes file) (seen : Seen) (n : ℕ) (last h : Header) (start size : ℕ) (f : Found h start size file (number_at file seen.next)) where
  size_is : length (part file start size) ≡ size
  size_is = sized file b seen.next h start size f

  peel : same_table (first_of seen h) h ≡ true → seen.lowest ≤ h.number → heading (sections_of n file (added seen h start size)) ≡ Ok last
      → Peeled file seen n last
  peel s r g =
      let e : h ≡ header_of (part file start size) = sound-header (part file start size) h f.sound in
      record {
        section = part file start size;
        start = start;
        stands = rw size_is (listed_here file b seen.next h start size f);
        sound = f.sound ∙ ap Ok e;
        same = subst (λ k. same_table (first_of seen k) k ≡ true) e s;
        rises = subst (λ k. seen.lowest ≤ k.number) e r;
        goes_on =
            rw size_is (subst (λ k. heading (sections_of n file (added seen k start size)) ≡ Ok last) e g);
      }

module _ (file : List ℕ) (b : Bytes file) (last : Header) where
  peeled : (seen : Seen) (n : ℕ) → heading (sections_of (suc n) file seen) ≡ Ok last → Peeled file seen n last
  unfolding sections_of
  peeled seen n e = go (section_at file seen.next) refl e
    where
      go : (p : Result Part Refusal) → section_at file seen.next ≡ p → heading (follow_of (sections_of n file) seen p) ≡ Ok last → Peeled file seen n last
      go (Err k) q e = apart k last e
      go (Ok p) q e =
          by (same_table (first_of seen p.header) p.header)
          (λ s.
          by (ltb p.header.number seen.lowest)
          (λ t. apart BadFile last (rw (s, t) at e))
          (λ t.
          peel file b seen n last p.header p.start p.length (found p.header p.start p.length file seen.next q) s (ltb-false _ _ t) (rw (s, t) at e)))
          (λ s. apart BadFile last (rw s at e))

  -- so many sections are listed from here on, to the file's end
  record Lists (seen : Seen) (first : Header) (n : ℕ) : Type 0 where
    sections : List (List ℕ)
    count : length sections ≡ n
    stands : drop seen.next file ≡ listed sections
    rising : Rising first seen.lowest sections

  no_more : (seen : Seen) → heading (sections_of 0 file seen) ≡ Ok last → drop seen.next file ≡ []
  unfolding sections_of
  no_more seen e =
      by (ltb seen.next (length file))
      (λ t. apart BadFile last (rw t at e))
      (λ t. let l : length file ≤ seen.next = ltb-false _ _ t in drop_of_length-le file l)

  -- a section before those that follow it
  before : (seen : Seen) (n : ℕ) (first : Header) (p : Peeled file seen n last) → first_of seen (header_of p.section) ≡ first
      → Lists (added seen (header_of p.section) p.start (length p.section)) first n → Lists seen first (suc n)
  unfolding listed
  before seen n first p e l =
      record {
        sections = p.section ∷ l.sections;
        count = ap suc l.count;
        stands = p.stands ∙ ap (λ r. spelt (length p.section) ++ (p.section ++ r)) l.stands;
        rising = (p.sound, rw (← e) p.same, p.rises, l.rising);
      }

  lists : (n : ℕ) (seen : Seen) (first : Header) → seen.first ≡ Some first → heading (sections_of n file seen) ≡ Ok last → Lists seen first n
  unfolding listed
  lists zero seen first g e = record { sections = []; count = refl; stands = no_more seen e; rising = tt }
  lists (suc n) seen first g e =
      let p = peeled seen n e in
      let f : first_of seen (header_of p.section) ≡ first = ap (λ o. unwrap_or o (header_of p.section)) g in
      before seen n first p f (lists n (added seen (header_of p.section) p.start (length p.section)) first (ap Some f) p.goes_on)

  -- a table from the first section on
  record Table (at n : ℕ) : Type 0 where
    sections : List (List ℕ)
    count : length sections ≡ n
    stands : drop at file ≡ listed sections
    sound : SoundTable sections

  table : (at n : ℕ) → 1 ≤ n → n ≤ most_counted → heading (sections_of n file (nothing at)) ≡ Ok last → Table at n
  unfolding before
  table at zero some few e = absurd (omega arith)
  table at (suc n) some few e =
      let p = peeled (nothing at) n e in
      let l = lists n (added (nothing at) (header_of p.section) p.start (length p.section)) (header_of p.section) refl p.goes_on in
      let w = before (nothing at) n (header_of p.section) p refl l in
      record { sections = w.sections; count = w.count; stands = w.stands; sound = ((let c : length w.sections ≡ suc n = w.count in omega arith), w.rising) }

  counted : (at : ℕ) → heading (count_of file (number_at file at)) ≡ Ok last
      → (ss : List (List ℕ)) × SoundTable ss × (drop at file ≡ spelt (length ss) ++ listed ss)
  counted at e = go (number_at file at) refl e
    where
      go : (m : Result Number Refusal) → number_at file at ≡ m → heading (count_of file m) ≡ Ok last
          → (ss : List (List ℕ)) × SoundTable ss × (drop at file ≡ spelt (length ss) ++ listed ss)
      go (Err k) q e = apart k last e
      go (Ok count) q e =
          by (ltb count.value fewest || ltb most_counted count.value)
          (λ t. apart BadFile last (rw t at e))
          (λ t.
          let some = ltb-false _ _ (or_left (ltb count.value fewest) _ t) in
          let few = ltb-false _ _ (or_right (ltb count.value fewest) _ t) in
          let t' = table count.next count.value some few (rw t at e) in (
            t'.sections,
            t'.sound,
            spelt-here file b at count.value count.next q
                ∙ ap (λ l. spelt count.value ++ l) t'.stands
                ∙ ap (λ k. spelt k ++ listed t'.sections) (sym t'.count),
          ))

  pub only-files : heading (scan_of file) ≡ Ok last → (ss : List (List ℕ)) × SoundTable ss × (file ≡ file_of ss)
  unfolding scan_of file_of
  only-files e = go (number_at file 0) refl e
    where
      go : (m : Result Number Refusal) → number_at file 0 ≡ m → heading (form_of file m) ≡ Ok last → (ss : List (List ℕ)) × SoundTable ss × (file ≡ file_of ss)
      go (Err k) q e = apart k last e
      go (Ok found) q e =
          by (eqb found.value form)
          (λ t.
          let k = counted found.next (rw t at e) in (
            k.0,
            k.1,
            spelt-here file b 0 found.value found.next q
                ∙ ap (λ l. spelt found.value ++ l) k.2
                ∙ ap (λ m. spelt m ++ (spelt (length k.0) ++ listed k.0)) (eqb-true found.value form t),
          ))
          (λ t. apart BadFile last (rw t at e))
