-- The faults of a file in document 01's words (`Fault`), and that its reading keeps to them. `Bytes` says that each element of a list
-- is a byte.
--   refused-exactly     a file is refused exactly by its first fault from the left
--   one-fault           a file has no two faults of different numbers
--   good-or-fault       a file is the file of a sound table, or has a fault, and not both
use mathlib.Core.Path.{◌≡◌, refl, sym, ap, subst, ◌∙◌}
use mathlib.Core.Bool.{Bool, true, false, ◌&&◌, ◌||◌}
use mathlib.Core.List.{List, [], ◌∷◌, ◌++◌, append_assoc, append-nil}
use mathlib.Core.Logic.{◌↔◌, ◌⊎◌, ⊎_elim, inl, inr}
use Prim.Native.Nat.{ℕ, zero, suc, ◌+◌, ◌-◌, ◌<◌, ◌≤◌}
use native.Mathlib.Omega.{arith}
use lib.Dec.{ltb, eqb}
use lib.ListN.{length, drop, length-append, length-drop}
use lib.Seq.{drop-append_seam}
use borrow.Author.Tests.{ltb-true, ltb-false, eqb-true, eqb-false}
use Rattle.base.specs.Bytes.{part}
use Rattle.base.specs.Tables.{Decides}
use Rattle.base.proofs.Bytes.{length_part}
use Rattle.base.proofs.Cases.{by, unlike, or_left, or_right}
use Rattle.base.proofs.Tables.{same, and_so, fails}
use Rattle.std.specs.Prelude.{Result, Ok, Err, Some}
use Rattle.std.specs.Option.{unwrap_or}
use Rattle.refusal.specs.declared.Refusal.{Refusal}
use Rattle.refusal.specs.declared.Refusal.TheVariants.{BadNumber, BadFile}
use Rattle.key.specs.Key.{same_key}
use Rattle.key.proofs.Keys.{same_key_lem, one-said, is_one_lem}
use Rattle.section.specs.Section.{read_of, header_of}
use Rattle.section.specs.declared.Header.{Header}
use Rattle.file_number.specs.Number.{numeral, largest, spelling, spelt, number_in, number_at, Bytes}
use Rattle.file_number.specs.Unreadable.{Unreadable}
use Rattle.file_number.specs.declared.Number.{Number}
use Rattle.file_number.proofs.OneSpelling.{read-spelt}
use Rattle.file_number.proofs.Bounds.{within}
use Rattle.file_number.proofs.Unreadable.{unreadable-exactly, only-11}
use Rattle.file.specs.Layout.{form, fewest, most_counted, shortest, longest, listed, same_table, Rising}
use Rattle.file.specs.Scan.{heading, lying, Seen, accepted, table_of, nothing, first_of, added, reading_of, length_of, section_at, sections_of, follow_of, count_of, form_of, scan_of}
use Rattle.file.specs.declared.Part.{Part}
use Rattle.file.specs.declared.Table.{Table}
use Rattle.file.proofs.Listed.{listed-append, same_refl}
use Rattle.file.proofs.Parts.{no_number, short, long, past, read_as}
use Rattle.file.proofs.Found.{Found, found, sound-header}
use Rattle.file.proofs.Front.{no-count, few, many, no-form, other-form, formed}
use Rattle.file_laws.specs.Fault.{Good, Begins, ToCome, Comes, Differs, Fault}
use Rattle.file_laws.proofs.Accepts.{its-bytes, its-end, count_at, first-at}
use Rattle.file_laws.proofs.Only.{bytes_drop, spelt-here, parted, sized, listed_here}
use Rattle.file_laws.proofs.Files.{IsFile, accepted-exactly}
use Rattle.file_laws.proofs.FirstFault.{first_some, first_or, lowest_after, section-moved, moved, first-fault, other-table, not-rising, left_over}

-- the test for one table says that none of the three differs
same-so : (a b : Header) → Decides (same_table a b) ((a.key ≡ b.key) × ((a.version ≡ b.version) × (a.last ≡ b.last)))
unfolding same_table
same-so a b =
    and_so (same_key a.key b.key) (eqb a.version b.version && eqb a.last b.last)
    (same_key_lem a.key b.key, λ e. one-said a.key b.key (is_one_lem a.key b.key e))
    (and_so (eqb a.version b.version) (eqb a.last b.last) (same a.version b.version) (same a.last b.last))

differs-so : (a b : List ℕ) → Differs a b → same_table (header_of a) (header_of b) ≡ false
differs-so a b d =
    fails (same_table (header_of a) (header_of b)) (same-so (header_of a) (header_of b))
    (λ s. ⊎_elim (λ n. n s.0) (⊎_elim (λ n. n s.1.0) (λ n. n s.1.1)) d)

so-differs : (a b : List ℕ) → same_table (header_of a) (header_of b) ≡ false → Differs a b
unfolding same_table
so-differs a b e =
    let h = header_of a in
    let k = header_of b in
    by (same_key h.key k.key)
    (λ t.
    by (eqb h.version k.version)
    (λ v. inr (inr (eqb-false h.last k.last (rw (t, v) at e))))
    (λ v. inr (inl (eqb-false h.version k.version v))))
    (λ t. inl (λ q. unlike (sym (one-said h.key k.key (is_one_lem h.key k.key q)) ∙ t)))

-- one section more, behind others
lowest-append : (low : ℕ) (ss : List (List ℕ)) (s : List ℕ) → lowest_after low (ss ++ (s ∷ [])) ≡ (header_of s).number + 1
lowest-append low [] s = refl
lowest-append low (t ∷ ss) s = lowest-append ((header_of t).number + 1) ss s

rising-append : (first : Header) (low : ℕ) (ss : List (List ℕ)) (s : List ℕ) → Rising first low ss → read_of s ≡ Ok (header_of s)
    → same_table first (header_of s) ≡ true → lowest_after low ss ≤ (header_of s).number → Rising first low (ss ++ (s ∷ []))
rising-append first low [] s r o m l = (o, m, l, tt)
rising-append first low (t ∷ ss) s r o m l =
    (r.0, r.1, r.2, rising-append first ((header_of t).number + 1) ss s r.3 o m l)

good-append : (ss : List (List ℕ)) (s : List ℕ) → Good ss → read_of s ≡ Ok (header_of s)
    → same_table (first_or (header_of s) ss) (header_of s) ≡ true → lowest_after 0 ss ≤ (header_of s).number → Good (ss ++ (s ∷ []))
good-append [] s g o m l = (o, m, l, tt)
good-append (t ∷ ss) s g o m l = rising-append (header_of t) 0 (t ∷ ss) s g o m l

first-append : (ss : List (List ℕ)) (s : List ℕ) → first_some (ss ++ (s ∷ [])) ≡ Some (first_or (header_of s) ss)
first-append [] s = refl
first-append (t ∷ ss) s = refl

-- the section before the next one
record Last (ss : List (List ℕ)) (low : ℕ) : Type 0 where
  earlier : List (List ℕ)
  before : List ℕ
  parts : ss ≡ earlier ++ (before ∷ [])
  rises : low ≡ (header_of before).number + 1

last-of : (low : ℕ) (t : List ℕ) (ss : List (List ℕ)) → Last (t ∷ ss) (lowest_after low (t ∷ ss))
last-of low t [] = record { earlier = []; before = t; parts = refl; rises = refl }
last-of low t (s ∷ ss) =
    let w = last-of ((header_of t).number + 1) s ss in
    record { earlier = t ∷ w.earlier; before = w.before; parts = ap (λ l. t ∷ l) w.parts; rises = w.rises }

-- what is read at the front of the rest, where the next section is
module _ (rest : List ℕ) where
  no_length : Unreadable rest → section_at rest 0 ≡ Err BadNumber
  no_length u = sym (no_number rest 0 BadNumber ((unreadable-exactly rest 0).1 u))

  module _ (size : ℕ) where
    abbrev sizes : List ℕ
    sizes = spelt size ++ rest

    size-out : size ≤ largest → (size < shortest) ⊎ (longest < size) → section_at sizes 0 ≡ Err BadFile
    size-out m o =
        ⊎_elim
        (λ l. sym (short sizes 0 (numeral size (0 + length (spelt size))) (read-spelt size m rest 0) l))
        (λ l. sym (long sizes 0 (numeral size (0 + length (spelt size))) (read-spelt size m rest 0) (omega arith) l))
        o

    runs_past_lem : shortest ≤ size → size ≤ longest → length rest < size → section_at sizes 0 ≡ Err BadFile
    runs_past_lem l h p =
        sym
        (past sizes 0 (numeral size (0 + length (spelt size))) (read-spelt size (omega arith) rest 0) l h
        (let e : length sizes ≡ length (spelt size) + length rest = length-append (spelt size) rest in omega arith))

module _ (s after : List ℕ) (low : shortest ≤ length s) (high : length s ≤ longest) where
  abbrev lists : List ℕ
  lists = spelt (length s) ++ (s ++ after)

  its-reading : section_at lists 0 ≡ reading_of (0 + length (spelt (length s))) (length s) (read_of s)
  its-reading =
      let i : 0 + length (spelt (length s)) + length s ≤ length lists = its-end lists s after 0 refl in
      read_as lists 0 (numeral (length s) (0 + length (spelt (length s)))) (read-spelt (length s) (omega arith) (s ++ after) 0) low high (length s) refl (omega arith)
      ∙ ap (λ b. reading_of (0 + length (spelt (length s))) (length s) (read_of b)) (its-bytes lists s after 0 refl)

  its-header : read_of s ≡ Ok (header_of s) → section_at lists 0 ≡ Ok (lying (header_of s) (0 + length (spelt (length s))) (length s))
  its-header o = its-reading ∙ ap (reading_of (0 + length (spelt (length s))) (length s)) o

-- a fault is answered by its number
module _ (file : List ℕ) where
  count-there : (rest : List ℕ) → file ≡ spelt form ++ rest → (drop count_at file ≡ rest) × (count_of file (number_at file count_at) ≡ scan_of file)
  unfolding spelling
  count-there rest e = (
    ap (drop count_at) e ∙ drop-append_seam (spelt form) rest,
    formed file (numeral form count_at) (ap (λ f. number_in f 0) e ∙ read-spelt form (omega arith) rest 0) refl,
  )

  pub answers : (r : Refusal) → Fault file r → scan_of file ≡ Err r
  answers r (Fault.form-unreadable u) = sym (no-form file BadNumber ((unreadable-exactly file 0).1 u))
  answers r (Fault.form-not-1 m rest e l d) =
      sym (other-form file (numeral m (0 + length (spelt m))) (ap (λ f. number_in f 0) e ∙ read-spelt m l rest 0) d)
  answers r (Fault.count-unreadable rest e u) =
      let w = count-there rest e in
      sym (no-count file count_at BadNumber (ap (λ d. number_in d count_at) w.0 ∙ (unreadable-exactly rest count_at).1 u) ∙ w.1)
  answers r (Fault.count-not-1-to-16 m rest e l o) =
      let w = count-there (spelt m ++ rest) e in
      let q : number_at file count_at ≡ Ok (numeral m (first-at m)) = ap (λ d. number_in d count_at) w.0 ∙ read-spelt m l rest count_at in
      ⊎_elim
      (λ k. sym (few file count_at (numeral m (first-at m)) q k ∙ w.1))
      (λ k. sym (many file count_at (numeral m (first-at m)) q (omega arith) k ∙ w.1))
      o
  answers r (Fault.length-unreadable ss rest w u) = first-fault file ss rest w BadNumber (no_length rest u)
  answers r (Fault.length-not-8-to-1024 ss size rest w l o) = first-fault file ss (spelt size ++ rest) w BadFile (size-out rest size l o)
  answers r (Fault.past-the-file ss size rest w l h p) = first-fault file ss (spelt size ++ rest) w BadFile (runs_past_lem rest size l h p)
  answers r (Fault.own-number ss s w k q) =
      first-fault file ss (spelt (length s) ++ (s ++ w.after)) w.to_come r
      (its-reading s w.after w.low w.high ∙ ap (reading_of (0 + length (spelt (length s))) (length s)) q)
  answers r (Fault.differs first later s w o d) =
      other-table file (first ∷ later) (spelt (length s) ++ (s ++ w.after)) w.to_come (header_of s) (0 + length (spelt (length s))) (length s)
      (its-header s w.after w.low w.high o) (differs-so first s d)
  answers r (Fault.not-rising earlier before s w o l) =
      let ss = earlier ++ (before ∷ []) in
      let e = its-header s w.after w.low w.high o in
      let k : lowest_after 0 ss ≡ (header_of before).number + 1 = lowest-append 0 earlier before in
      by (same_table (first_or (header_of s) ss) (header_of s))
      (λ t.
      not-rising file ss (spelt (length s) ++ (s ++ w.after)) w.to_come (header_of s) (0 + length (spelt (length s))) (length s) e t (omega arith))
      (λ t. other-table file ss (spelt (length s) ++ (s ++ w.after)) w.to_come (header_of s) (0 + length (spelt (length s))) (length s) e t)
  answers r (Fault.left_over ss rest b l) = left_over file ss rest b l

-- a file that is refused has the fault
one_refusal : {A : Type 0} (k m : Refusal) → ◌≡◌ {A = Result A Refusal} (Err k) (Err m) → k ≡ m
one_refusal k m e = cc

unmoved : (at : ℕ) (m : Refusal) (p : Result Part Refusal) → moved at p ≡ Err m → p ≡ Err m
unmoved at m (Ok p) e = let q : Ok (lying p.header (at + p.start) p.length) ≡ Err m = e in cc
unmoved at m (Err k) e = e

own-reading : (start size : ℕ) (m : Refusal) (r : Result Header Refusal) → reading_of start size r ≡ Err m → r ≡ Err m
own-reading start size m (Ok h) e = let q : Ok (lying h start size) ≡ Err m = e in cc
own-reading start size m (Err k) e = ap Err (one_refusal k m e)

-- a scan that ends behind a section gives a table
no_fault : {A : Type 0} (m : Refusal) (seen : Seen) (ss : List (List ℕ)) → 1 ≤ length ss → seen.first ≡ first_some ss → accepted seen ≡ Err m → A
no_fault m seen [] l f e = absurd (omega arith)
no_fault m seen (s ∷ ss) l f e =
    let q : ◌≡◌ {A = Result Table Refusal} (Ok (record { header = header_of s; starts = seen.starts; lengths = seen.lengths })) (Err m)
    = sym (ap (table_of seen.starts seen.lengths) f) ∙ e in
    cc

outside : (n low high : ℕ) → ltb n low || ltb high n ≡ true → (n < low) ⊎ (high < n)
outside n low high t = by (ltb n low) (λ u. inl (ltb-true n low u)) (λ u. inr (ltb-true high n (rw u at t)))

module _ (file : List ℕ) where
  differs-fault : (ss : List (List ℕ)) (s : List ℕ) → Comes file ss s → read_of s ≡ Ok (header_of s)
      → same_table (first_or (header_of s) ss) (header_of s) ≡ false → Fault file BadFile
  differs-fault [] s w o e = absurd (unlike (sym (same_refl (header_of s)) ∙ e))
  differs-fault (first ∷ later) s w o e = Fault.differs first later s w o (so-differs first s e)

  falls-fault : (ss : List (List ℕ)) (s : List ℕ) → Comes file ss s → read_of s ≡ Ok (header_of s)
      → (header_of s).number < lowest_after 0 ss → Fault file BadFile
  falls-fault [] s w o l = absurd (omega arith)
  falls-fault (t ∷ ss) s w o l =
      let k = last-of 0 t ss in
      let r : lowest_after 0 (t ∷ ss) ≡ (header_of k.before).number + 1 = k.rises in
      Fault.not-rising k.earlier k.before s (subst (λ l. Comes file l s) k.parts w) o (omega arith)

  -- the next section's length, and its own number
  module _ (ss : List (List ℕ)) (rest : List ℕ) (w : ToCome file ss rest) (b : Bytes rest) (m : Refusal) where
    module _ (size start : ℕ) (q : number_at rest 0 ≡ Ok (numeral size start)) (low : shortest ≤ size) (high : size ≤ longest)
        (i : start + size ≤ length rest) where
      own-fault : read_of (part rest start size) ≡ Err m → Fault file m
      own-fault r =
          let s = part rest start size in
          let z : length s ≡ size = length_part rest start size i in
          let e : rest ≡ spelt (length s) ++ (s ++ drop (start + size) rest)
          = spelt-here rest b 0 size start q ∙ ap (λ k. spelt k ++ drop start rest) (sym z) ∙ ap (λ l. spelt (length s) ++ l) (parted rest start size) in
          Fault.own-number ss s
          (record { after = drop (start + size) rest; to_come = subst (ToCome file ss) e w; low = rw z low; high = rw z high })
          m r

    part-fault : section_at rest 0 ≡ Err m → Fault file m
    unfolding section_at
    part-fault e = go (number_at rest 0) refl e
      where
        go : (x : Result Number Refusal) → number_at rest 0 ≡ x → length_of rest x ≡ Err m → Fault file m
        go (Err k) q e =
            let z : k ≡ BadNumber = only-11 rest 0 k q in
            subst (Fault file) (sym z ∙ one_refusal k m e) (Fault.length-unreadable ss rest w ((unreadable-exactly rest 0).0 (q ∙ ap Err z)))
        go (Ok found) q e =
            let size = found.value in
            let start = found.next in
            let h : rest ≡ spelt size ++ drop start rest = spelt-here rest b 0 size start q in
            let k = within rest 0 size start q in
            let c : ToCome file ss (spelt size ++ drop start rest) = subst (ToCome file ss) h w in
            by (ltb size shortest || ltb longest size)
            (λ t.
            subst (Fault file) (one_refusal BadFile m (rw t at e))
            (Fault.length-not-8-to-1024 ss size (drop start rest) c k.0 (outside size shortest longest t)))
            (λ t.
            let low : shortest ≤ size = ltb-false _ _ (or_left (ltb size shortest) _ t) in
            let high : size ≤ longest = ltb-false _ _ (or_right (ltb size shortest) _ t) in
            by (ltb (length rest) (start + size))
            (λ u.
            let l : length rest < start + size = ltb-true _ _ u in
            let d : length (drop start rest) ≡ length rest - start = length-drop start rest in
            let p : start ≤ length rest = k.2 in
            subst (Fault file) (one_refusal BadFile m (rw (t, u) at e)) (Fault.past-the-file ss size (drop start rest) c low high (omega arith)))
            (λ u. own-fault size start q low high (ltb-false _ _ u) (own-reading start size m (read_of (part rest start size)) (rw (t, u) at e))))

  -- where the scan stands behind good sections
  record At (ss : List (List ℕ)) (rest : List ℕ) (left : ℕ) (seen : Seen) : Type 0 where
    n : ℕ
    begins : Begins file n ss rest
    count : length ss + left ≡ n
    here : drop seen.next file ≡ rest
    inside : seen.next ≤ length file
    first : seen.first ≡ first_some ss
    lowest : seen.lowest ≡ lowest_after 0 ss

  listed-behind : (ss : List (List ℕ)) (s after : List ℕ) → listed (ss ++ (s ∷ [])) ++ after ≡ listed ss ++ (spelt (length s) ++ (s ++ after))
  unfolding listed
  listed-behind ss s after = rw (listed-append ss (s ∷ [])) (simp (append_assoc, append-nil))

  module _ (b : Bytes file) (ss : List (List ℕ)) (rest : List ℕ) (left : ℕ) (seen : Seen) (a : At ss rest (suc left) seen) where
    to_come : ToCome file ss rest
    to_come = record { n = a.n; begins = a.begins; left = let c : length ss + suc left ≡ a.n = a.count in omega arith }

    module _ (h : Header) (start size : ℕ) (q : section_at file seen.next ≡ Ok (lying h start size)) where
      abbrev s : List ℕ
      s = part file start size

      abbrev after : List ℕ
      after = drop (start + size) file

      s-found : Found h start size file (number_at file seen.next)
      s-found = found h start size file seen.next q

      s-size : length s ≡ size
      s-size = sized file b seen.next h start size s-found

      s-header : h ≡ header_of s
      s-header = sound-header s h s-found.sound

      s-number : h.number ≡ (header_of s).number
      s-number = ap (λ x. x.number) s-header

      s-sound : read_of s ≡ Ok (header_of s)
      s-sound = s-found.sound ∙ ap Ok s-header

      s-here : rest ≡ spelt (length s) ++ (s ++ after)
      s-here = sym a.here ∙ listed_here file b seen.next h start size s-found ∙ ap (λ k. spelt k ++ (s ++ after)) (sym s-size)

      s-comes : Comes file ss s
      s-comes =
          record { after = after; to_come = subst (ToCome file ss) s-here to_come; low = rw s-size s-found.low; high = rw s-size s-found.high }

      s-same : (t : Bool) → same_table (first_of seen h) h ≡ t → same_table (first_or (header_of s) ss) (header_of s) ≡ t
      s-same t e = subst (λ k. same_table (first_or k ss) k ≡ t) s-header (ap (λ o. same_table (unwrap_or o h) h) (sym a.first) ∙ e)

      s-differs : same_table (first_of seen h) h ≡ false → Fault file BadFile
      s-differs e = differs-fault ss s s-comes s-sound (s-same false e)

      s-falls : h.number < seen.lowest → Fault file BadFile
      s-falls l = falls-fault ss s s-comes s-sound (omega (arith, a.lowest, s-number, l))

      s-next : same_table (first_of seen h) h ≡ true → seen.lowest ≤ h.number → At (ss ++ (s ∷ [])) after left (added seen h start size)
      s-next t l =
          record {
            n = a.n;
            begins =
                record {
                  some = a.begins.some;
                  few = a.begins.few;
                  good = good-append ss s a.begins.good s-sound (s-same true t) (omega (arith, a.lowest, s-number, l));
                  stands = a.begins.stands ∙ ap (λ l. spelt form ++ (spelt a.n ++ l)) (ap (λ r. listed ss ++ r) s-here ∙ sym (listed-behind ss s after));
                };
            count = (let c : length ss + suc left ≡ a.n = a.count in let k : length (ss ++ (s ∷ [])) ≡ length ss + 1 = length-append ss (s ∷ []) in omega arith);
            here = refl;
            inside = s-found.inside;
            first = ap Some (ap (λ o. unwrap_or o h) a.first ∙ ap (λ x. first_or x ss) s-header) ∙ sym (first-append ss s);
            lowest = ap (λ k. k + 1) s-number ∙ sym (lowest-append 0 ss s);
          }

  module _ (b : Bytes file) (m : Refusal) where
    abbrev Goes : ℕ → Type 0
    Goes left = (ss : List (List ℕ)) (rest : List ℕ) (seen : Seen) → At ss rest left seen → sections_of left file seen ≡ Err m → Fault file m

    goes_on : (left : ℕ) → Goes left → (ss : List (List ℕ)) (rest : List ℕ) (seen : Seen) → At ss rest (suc left) seen
        → (p : Result Part Refusal) → section_at file seen.next ≡ p → follow_of (sections_of left file) seen p ≡ Err m → Fault file m
    goes_on left more ss rest seen a (Err k) q e =
        let w : section_at rest 0 ≡ Err k
        = unmoved seen.next k (section_at rest 0) (sym (section-moved file rest seen.next a.here a.inside) ∙ q) in
        subst (Fault file) (one_refusal k m e)
        (part-fault ss rest (to_come b ss rest left seen a) (subst Bytes a.here (bytes_drop file b seen.next)) k w)
    goes_on left more ss rest seen a (Ok p) q e =
        let h = p.header in
        let start = p.start in
        let size = p.length in
        by (same_table (first_of seen h) h)
        (λ t.
        by (ltb h.number seen.lowest)
        (λ u. subst (Fault file) (one_refusal BadFile m (rw (t, u) at e)) (s-falls b ss rest left seen a h start size q (ltb-true _ _ u)))
        (λ u.
        more (ss ++ (part file start size ∷ [])) (drop (start + size) file) (added seen h start size)
        (s-next b ss rest left seen a h start size q t (ltb-false _ _ u)) (rw (t, u) at e)))
        (λ t. subst (Fault file) (one_refusal BadFile m (rw t at e)) (s-differs b ss rest left seen a h start size q t))

    goes : (left : ℕ) → Goes left
    unfolding sections_of
    goes zero ss rest seen a e =
        by (ltb seen.next (length file))
        (λ t.
        let l : seen.next < length file = ltb-true _ _ t in
        let d : length rest ≡ length file - seen.next = ap length (sym a.here) ∙ length-drop seen.next file in
        let c : a.n ≡ length ss = (let c : length ss + 0 ≡ a.n = a.count in omega arith) in
        subst (Fault file) (one_refusal BadFile m (rw t at e)) (Fault.left_over ss rest (subst (λ k. Begins file k ss rest) c a.begins) (omega arith)))
        (λ t.
        let c : length ss + 0 ≡ a.n = a.count in
        let l : fewest ≤ a.n = a.begins.some in
        no_fault m seen ss (omega arith) a.first (rw t at e))
    goes (suc left) ss rest seen a e = goes_on left (goes left) ss rest seen a (section_at file seen.next) refl e

    counted-fault : (next : ℕ) → next ≤ length file → file ≡ spelt form ++ drop next file → (x : Result Number Refusal) → number_at file next ≡ x → count_of file x ≡ Err m
        → Fault file m
    unfolding listed
    counted-fault next i f (Err k) q e =
        let z : k ≡ BadNumber = only-11 (drop next file) next k q in
        subst (Fault file) (sym z ∙ one_refusal k m e)
        (Fault.count-unreadable (drop next file) f ((unreadable-exactly (drop next file) next).0 (q ∙ ap Err z)))
    counted-fault next i f (Ok count) q e =
        let n = count.value in
        let at = count.next in
        let h : file ≡ spelt form ++ (spelt n ++ drop at file) = f ∙ ap (λ l. spelt form ++ l) (spelt-here file b next n at q) in
        let k = within file next n at q in
        by (ltb n fewest || ltb most_counted n)
        (λ t.
        subst (Fault file) (one_refusal BadFile m (rw t at e))
        (Fault.count-not-1-to-16 n (drop at file) h k.0 (outside n fewest most_counted t)))
        (λ t.
        goes n [] (drop at file) (nothing at)
        (record {
          n = n;
          begins =
              record {
                some = ltb-false _ _ (or_left (ltb n fewest) _ t);
                few = ltb-false _ _ (or_right (ltb n fewest) _ t);
                good = tt;
                stands = h;
              };
          count = omega arith;
          here = refl;
          inside = k.2;
          first = refl;
          lowest = refl;
        })
        (rw t at e))

    formed-fault : (x : Result Number Refusal) → number_at file 0 ≡ x → form_of file x ≡ Err m → Fault file m
    formed-fault (Err k) q e =
        let z : k ≡ BadNumber = only-11 file 0 k q in
        subst (Fault file) (sym z ∙ one_refusal k m e) (Fault.form-unreadable ((unreadable-exactly file 0).0 (q ∙ ap Err z)))
    formed-fault (Ok form') q e =
        let n = form'.value in
        let next = form'.next in
        let h : file ≡ spelt n ++ drop next file = spelt-here file b 0 n next q in
        let k = within file 0 n next q in
        by (eqb n form)
        (λ t. counted-fault next k.2 (h ∙ ap (λ k. spelt k ++ drop next file) (eqb-true n form t)) (number_at file next) refl (rw t at e))
        (λ t.
        subst (Fault file) (one_refusal BadFile m (rw t at e))
        (Fault.form-not-1 n (drop next file) h k.0 (eqb-false n form t)))

    has-fault : scan_of file ≡ Err m → Fault file m
    unfolding scan_of
    has-fault e = formed-fault (number_at file 0) refl e

module _ (file : List ℕ) where
  pub one-fault : (m n : Refusal) → Fault file m → Fault file n → m ≡ n
  one-fault m n f g = one_refusal m n (sym (answers file m f) ∙ answers file n g)

  module _ (b : Bytes file) where
    pub refused-exactly : (r : Refusal) → (scan_of file ≡ Err r) ↔ Fault file r
    refused-exactly r = (has-fault file b r, answers file r)

    pub good-or-fault : (IsFile file ⊎ ((r : Refusal) × Fault file r)) × ¬ (IsFile file × ((r : Refusal) × Fault file r))
    good-or-fault = (
      go (scan_of file) refl,
      λ w.
          let a = (accepted-exactly file b).1 w.0 in
          let q : Ok a.0 ≡ Err w.1.0 = sym a.1 ∙ ap heading (answers file w.1.0 w.1.1) in
          cc,
    )
      where
        go : (r : Result Table Refusal) → scan_of file ≡ r → IsFile file ⊎ ((r : Refusal) × Fault file r)
        go (Ok table) e = inl ((accepted-exactly file b).0 (table.header, ap heading e))
        go (Err r) e = inr (r, has-fault file b r e)
