-- When each answer about a section is given (`specs/Theorems.antt` has the words).
--   read_own, read_45, read_43, read_exactly, read_key, read_range
--   step_first, step_43, step_over, step_exactly, step_range
--   own_first, own_43, own_44, own_exactly, own_range
use mathlib.Core.Path.{◌≡◌, refl, sym, ap, ◌∙◌}
use mathlib.Core.List.{List}
use mathlib.Core.Logic.{◌⊎◌, inl, inr, ⊎_elim}
use Prim.Native.Nat.{ℕ, ◌+◌, ◌-◌, ◌<◌, ◌≤◌}
use native.Mathlib.Omega.{arith}
use lib.Dec.{ltb, leb, eqb}
use lib.ListN.{length}
use borrow.Author.Tests.{ltb-true, ltb-false, leb-true, leb-false, eqb-true, eqb-false}
use Rattle.base.specs.Bytes.{byte}
use Rattle.base.proofs.Cases.{by, same_or}
use Rattle.std.specs.Prelude.{Result, Ok, Err, Some, None}
use Rattle.refusal.specs.Refusal.{number}
use Rattle.refusal.specs.declared.Refusal.{Refusal}
use Rattle.refusal.specs.declared.Refusal.TheVariants.{ProgrammePassesEnd, ProgrammeBytesLeft, ProgrammeOtherTable}
use Rattle.refusal.proofs.Numbers.{once}
use Rattle.section.specs.declared.Header.{Header}
use Rattle.section.specs.Section as section
use Rattle.section.specs.Theorems.{OwnNumber}
use Rattle.section.proofs.ExactlyWhen as sectionwhen
use Rattle.section.proofs.Keys.{key-id}
use Rattle.key.proofs.Keys.{key-list}
use Rattle.programme.specs.Table.{content_descriptors_at, num_content_descriptors, num_descriptors, descriptors_at}
use Rattle.programme.specs.Reading.{Reading, Step, Own, read_of, programme_of, item_of, item_run, item_at, own_run, own_at, step_of, own_of}
use Rattle.programme.specs.Run.{Run}
use Rattle.programme.specs.declared.Programme.{Programme}
use Rattle.programme.specs.declared.Loop.{Loop}
use Rattle.programme.specs.declared.Item.{Item}
use Rattle.programme.proofs.Readings as readings
use Rattle.programme.proofs.Runs.{run_lies}
use Rattle.programme.proofs.Items as items
use Rattle.programme.proofs.Items.{item_to}
use Rattle.programme_laws.specs.Theorems.{SoundWith, OfNrtIt, Begun, ReadOwn, Read45, Read43, ReadExactly, ReadKey, ReadRange, ItemPasses, OwnPasses, OwnLeaves}
use Rattle.programme_laws.specs.Theorems.{StepFirst, StepOver, Step43, StepExactly, StepRange, OwnFirst, Own43, Own44, OwnExactly, OwnRange}
use Rattle.programme_laws.proofs.Passing.{past-found, found-past}

-- which of its ways out a reading took
pub data Way (s : List ℕ) : Type 0 where
  own : (n : Refusal) → section.read_of s ≡ Err n → read_of s ≡ Err n → Way s
  other : SoundWith s (λ id. ¬ (id ≡ 0xDF)) → read_of s ≡ Err ProgrammeOtherTable → Way s
  short : OfNrtIt s → length s < 17 → read_of s ≡ Err ProgrammePassesEnd → Way s
  whole : OfNrtIt s → 17 ≤ length s → read_of s ≡ Ok (programme_of s) → Way s

pub way : (s : List ℕ) → Way s
way s = go (section.read_of s) refl
  where
    go : (r : Result Header Refusal) → section.read_of s ≡ r → Way s
    go (Err n) q = Way.own n q (sym (readings.read_refused s n q))
    go (Ok h) q =
        by (eqb h.key.table 0xDF)
        (λ t.
        let u : h.key.table ≡ 0xDF = eqb-true _ _ t in
        let of : OfNrtIt s = record { header = h; sound = q; table = u } in
        by (ltb (length s) 17)
        (λ l. let x : length s < 17 = ltb-true _ _ l in Way.short of x (sym (readings.read_short s h q u x)))
        (λ l. let x : 17 ≤ length s = ltb-false _ _ l in Way.whole of x (sym (readings.read_whole s h q u x))))
        (λ f.
        let d : ¬ (h.key.table ≡ 0xDF) = eqb-false _ _ f in
        Way.other (record { header = h; sound = q; table = d }) (sym (readings.read-other s h q d)))

same_number : {a b : Refusal} → ◌≡◌ {A = Reading} (Err a) (Err b) → a ≡ b
same_number e = cc

read-apart : {P : Type 0} {n : Refusal} {p : Programme} → Err n ≡ Ok p → P
read-apart e = absurd (let z : ◌≡◌ {A = ℕ} 0 1 = cc in omega arith)

-- two refusals are one, or they are not
same_refusal : (a b : Refusal) → (a ≡ b) ⊎ ¬ (a ≡ b)
same_refusal a b = ⊎_elim (λ e. inl (once a b e)) (λ d. inr (λ e. d (ap number e))) (same_or (number a) (number b))

-- a section's own number is none of the others
none_between : {P : Type 0} (n : ℕ) → OwnNumber n → 8 < n → n < 46 → P
none_between n o l h = absurd (⊎_elim (λ w. omega (arith, w.1)) (λ e. omega arith) o)

module _ (s : List ℕ) where
  section-range : (n : Refusal) → section.read_of s ≡ Err n → OwnNumber (number n)
  section-range = sectionwhen.refused_range s

  pub read_own : ReadOwn s
  read_own n a b = (go (way s), λ q. sym (readings.read_refused s n q))
    where
      go : Way s → read_of s ≡ Err n → section.read_of s ≡ Err n
      go (Way.own m q r) e = q ∙ ap Err (same_number (sym r ∙ e))
      go (Way.other o r) e = absurd (b (same_number (sym e ∙ r)))
      go (Way.short o x r) e = absurd (a (same_number (sym e ∙ r)))
      go (Way.whole o x r) e = read-apart (sym e ∙ r)

  pub read_45 : Read45 s
  read_45 = (go (way s), λ o. sym (readings.read-other s o.header o.sound o.table))
    where
      go : Way s → read_of s ≡ Err ProgrammeOtherTable → SoundWith s (λ id. ¬ (id ≡ 0xDF))
      go (Way.own m q r) e = let z : number m ≡ 45 = ap number (same_number (sym r ∙ e)) in none_between (number m) (section-range m q) (omega arith) (omega arith)
      go (Way.other o r) e = o
      go (Way.short o x r) e = absurd (let z : ◌≡◌ {A = ℕ} 43 45 = ap number (same_number (sym r ∙ e)) in omega arith)
      go (Way.whole o x r) e = read-apart (sym e ∙ r)

  pub read_43 : Read43 s
  read_43 = (go (way s), λ w. sym (readings.read_short s w.0.header w.0.sound w.0.table w.1))
    where
      go : Way s → read_of s ≡ Err ProgrammePassesEnd → OfNrtIt s × (length s < 17)
      go (Way.own m q r) e = let z : number m ≡ 43 = ap number (same_number (sym r ∙ e)) in none_between (number m) (section-range m q) (omega arith) (omega arith)
      go (Way.other o r) e = absurd (let z : ◌≡◌ {A = ℕ} 45 43 = ap number (same_number (sym r ∙ e)) in omega arith)
      go (Way.short o x r) e = (o, x)
      go (Way.whole o x r) e = read-apart (sym e ∙ r)

  pub read_exactly : ReadExactly s
  read_exactly p = (
    λ e. let l = readings.listed s p e in ((record { header = l.header; sound = l.sound; table = l.table }, l.long), l.says),
    λ w. sym (readings.read_whole s w.0.0.header w.0.0.sound w.0.0.table w.0.1) ∙ ap Ok (sym w.1),
  )

  pub read_key : ReadKey s
  read_key h p q e =
      let l = readings.listed s p e in
      let x : Ok l.header ≡ Ok h = sym l.sound ∙ q in
      let same : l.header ≡ h = cc in
      let own : h ≡ section.header_of s = ((sectionwhen.sound s h).0 q).1 in
      let id : section.table_id s ≡ 0xDF = sym (key-id s) ∙ ap (λ g. g.key.table) (sym own ∙ sym same) ∙ l.table in
      let key = key-list (section.table_id s) (section.table_id_extension s) (section.service_id s) (section.time_span_start s) id in
      rw (l.says, own, key) (refl, refl)

  pub read_range : ReadRange s
  read_range n e = go (way s)
    where
      go : Way s → OwnNumber (number n) ⊎ ((n ≡ ProgrammePassesEnd) ⊎ (n ≡ ProgrammeOtherTable))
      go (Way.own m q r) = let z : m ≡ n = same_number (sym r ∙ e) in inl (rw z at (section-range m q))
      go (Way.other o r) = inr (inr (same_number (sym e ∙ r)))
      go (Way.short o x r) = inr (inl (same_number (sym e ∙ r)))
      go (Way.whole o x r) = read-apart (sym e ∙ r)

-- the reading of a section that holds the fields before the items
pub begun-reads : (s : List ℕ) → Begun s → read_of s ≡ Ok (programme_of s)
begun-reads s w = (read_exactly s (programme_of s)).1 (w, refl)

step-apart : {P : Type 0} {i : Item} → ◌≡◌ {A = Step} (Ok None) (Ok (Some i)) → P
step-apart e = absurd (let z : ◌≡◌ {A = ℕ} 0 1 = cc in omega arith)

step-no : {P : Type 0} {n : Refusal} → ◌≡◌ {A = Step} (Ok None) (Err n) → P
step-no e = absurd (let z : ◌≡◌ {A = ℕ} 0 1 = cc in omega arith)

item-no : {P : Type 0} {n : Refusal} {i : Item} → Err n ≡ Ok (Some i) → P
item-no e = absurd (let z : ◌≡◌ {A = ℕ} 0 1 = cc in omega arith)

-- which of its ways out an item took
pub data ItemWay (s : List ℕ) (at : ℕ) : Type 0 where
  passes : ItemPasses s at → item_at s at ≡ Err ProgrammePassesEnd → ItemWay s at
  reads : (¬ ItemPasses s at) → item_at s at ≡ Ok (Some (item_of s at)) → ItemWay s at

pub item-way : (s : List ℕ) (at : ℕ) → ItemWay s at
item-way s at =
    by (ltb at 17)
    (λ t. let l : at < 17 = ltb-true _ _ t in ItemWay.passes (inl l) (sym (items.item-early s at l)))
    λ f.
    let late : 17 ≤ at = ltb-false _ _ f in
    by (ltb (length s) (content_descriptors_at s at))
    (λ t. let l : length s < content_descriptors_at s at = ltb-true _ _ t in ItemWay.passes (inr (inl l)) (sym (items.item-cut s at l)))
    λ g. let fits : content_descriptors_at s at ≤ length s = ltb-false _ _ g in go late fits (item_run s at) refl
  where
    go : 17 ≤ at → content_descriptors_at s at ≤ length s → (x : Run) → item_run s at ≡ x → ItemWay s at
    go late fits None q =
        ItemWay.passes (inr (inr (past-found (num_content_descriptors s at) s (content_descriptors_at s at) q))) (sym (items.item-past s at q))
    go late fits (Some end) q =
        ItemWay.reads
        (λ p. ⊎_elim (λ l. omega arith)
        (λ p. ⊎_elim (λ l. omega arith)
        (λ w. let z : None ≡ Some end = sym (found-past (num_content_descriptors s at) s (content_descriptors_at s at) w) ∙ q in
        let y : ◌≡◌ {A = ℕ} 0 1 = cc in omega arith) p) p)
        (sym (items.item-reads s at late fits end q) ∙ ap (λ i. Ok (Some i)) (let to : item_to s at end ≡ item_of s at = rw q in to))

step-numbers : {a b : Refusal} → ◌≡◌ {A = Step} (Err a) (Err b) → a ≡ b
step-numbers x = cc

-- which of its ways out a step took
data StepWay (s : List ℕ) (at k : ℕ) : Type 0 where
  first : (n : Refusal) → read_of s ≡ Err n → step_of s at k ≡ Err n → StepWay s at k
  over : Begun s → (programme_of s).items ≤ k → step_of s at k ≡ Ok None → StepWay s at k
  passes : Begun s → k < (programme_of s).items → ItemPasses s at → step_of s at k ≡ Err ProgrammePassesEnd → StepWay s at k
  reads : Begun s → k < (programme_of s).items → (¬ ItemPasses s at) → step_of s at k ≡ Ok (Some (item_of s at)) → StepWay s at k

module _ (s : List ℕ) (at k : ℕ) where
  step-refused : (n : Refusal) → read_of s ≡ Err n → step_of s at k ≡ Err n
  step-refused n e = sym (items.step-refused s at k n e)

  module _ (w : Begun s) where
    behind : (programme_of s).items ≤ k → step_of s at k ≡ Ok None
    behind l = sym (items.step_over s at k (programme_of s) (begun-reads s w) l)

    there : k < (programme_of s).items → step_of s at k ≡ item_at s at
    there l = sym (items.step-item s at k (programme_of s) (begun-reads s w) l)

  step-way : StepWay s at k
  step-way = go (way s)
    where
      item : Begun s → k < (programme_of s).items → ItemWay s at → StepWay s at k
      item w l (ItemWay.passes p q) = StepWay.passes w l p (there w l ∙ q)
      item w l (ItemWay.reads p q) = StepWay.reads w l p (there w l ∙ q)

      begun : Begun s → StepWay s at k
      begun w =
          by (leb (programme_of s).items k)
          (λ t. let l : (programme_of s).items ≤ k = leb-true _ _ t in StepWay.over w l (behind w l))
          λ f. item w (leb-false _ _ f) (item-way s at)

      go : Way s → StepWay s at k
      go (Way.own n q r) = StepWay.first n r (step-refused n r)
      go (Way.other o r) = StepWay.first ProgrammeOtherTable r (step-refused ProgrammeOtherTable r)
      go (Way.short o x r) = StepWay.first ProgrammePassesEnd r (step-refused ProgrammePassesEnd r)
      go (Way.whole o x r) = begun (o, x)

  pub step_first : StepFirst s at k
  step_first n d = (go step-way, step-refused n)
    where
      go : StepWay s at k → step_of s at k ≡ Err n → read_of s ≡ Err n
      go (StepWay.first m r e) x = r ∙ ap Err (step-numbers (sym e ∙ x))
      go (StepWay.over w l e) x = step-no (sym e ∙ x)
      go (StepWay.passes w l p e) x = absurd (d (step-numbers (sym x ∙ e)))
      go (StepWay.reads w l p e) x = item-no (sym x ∙ e)

  pub step_43 : Step43 s at k
  step_43 = (go step-way, ⊎_elim (λ h. step-refused ProgrammePassesEnd ((read_43 s).1 h)) (λ h. there h.0 h.1 ∙ back h.2 (item-way s at)))
    where
      go : StepWay s at k → step_of s at k ≡ Err ProgrammePassesEnd → (OfNrtIt s × (length s < 17)) ⊎ (Begun s × (k < (programme_of s).items) × ItemPasses s at)
      go (StepWay.first m r e) x = inl ((read_43 s).0 (r ∙ ap Err (step-numbers (sym e ∙ x))))
      go (StepWay.over w l e) x = step-no (sym e ∙ x)
      go (StepWay.passes w l p e) x = inr (w, l, p)
      go (StepWay.reads w l p e) x = item-no (sym x ∙ e)

      back : ItemPasses s at → ItemWay s at → item_at s at ≡ Err ProgrammePassesEnd
      back h (ItemWay.passes p q) = q
      back h (ItemWay.reads p q) = absurd (p h)

  pub step_over : StepOver s at k
  step_over = (go step-way, λ h. behind h.0 h.1)
    where
      go : StepWay s at k → step_of s at k ≡ Ok None → Begun s × ((programme_of s).items ≤ k)
      go (StepWay.first m r e) x = step-no (sym x ∙ e)
      go (StepWay.over w l e) x = (w, l)
      go (StepWay.passes w l p e) x = step-no (sym x ∙ e)
      go (StepWay.reads w l p e) x = step-apart (sym x ∙ e)

  pub step_exactly : StepExactly s at k
  step_exactly i = (go step-way, λ h. there h.0 h.1 ∙ back h.2 (item-way s at) ∙ ap (λ i. Ok (Some i)) (sym h.3))
    where
      same : {a b : Item} → ◌≡◌ {A = Step} (Ok (Some a)) (Ok (Some b)) → a ≡ b
      same e = cc

      go : StepWay s at k → step_of s at k ≡ Ok (Some i) → Begun s × (k < (programme_of s).items) × (¬ ItemPasses s at) × (i ≡ item_of s at)
      go (StepWay.first m r e) x = item-no (sym e ∙ x)
      go (StepWay.over w l e) x = step-apart (sym e ∙ x)
      go (StepWay.passes w l p e) x = item-no (sym e ∙ x)
      go (StepWay.reads w l p e) x = (w, l, p, same (sym x ∙ e))

      back : (¬ ItemPasses s at) → ItemWay s at → item_at s at ≡ Ok (Some (item_of s at))
      back h (ItemWay.passes p q) = absurd (h p)
      back h (ItemWay.reads p q) = q

  pub step_range : StepRange s at k
  step_range n e =
      ⊎_elim (λ (z : n ≡ ProgrammePassesEnd). inr (inl z))
      (λ (d : ¬ (n ≡ ProgrammePassesEnd)). read_range s n ((step_first n d).0 e))
      (same_refusal n ProgrammePassesEnd)

own-no : {P : Type 0} {n : Refusal} {l : Loop} → Err n ≡ Ok l → P
own-no e = absurd (let z : ◌≡◌ {A = ℕ} 0 1 = cc in omega arith)

own-numbers : {a b : Refusal} → ◌≡◌ {A = Own} (Err a) (Err b) → a ≡ b
own-numbers x = cc

-- which of its ways out the table's own loop took
abbrev own_loop : List ℕ → ℕ → Loop
own_loop s at = record { count = byte s at; place = at + 1; length = length s - (at + 1) }

data OwnWay (s : List ℕ) (at : ℕ) : Type 0 where
  passes : OwnPasses s at → own_at s at ≡ Err ProgrammePassesEnd → OwnWay s at
  left : (¬ OwnPasses s at) → (end : ℕ) → own_run s at ≡ Some end → end < length s → own_at s at ≡ Err ProgrammeBytesLeft → OwnWay s at
  reads : (¬ OwnPasses s at) → own_run s at ≡ Some (length s) → own_at s at ≡ Ok (own_loop s at) → OwnWay s at

own-way : (s : List ℕ) (at : ℕ) → OwnWay s at
own-way s at =
    by (ltb at 17)
    (λ t. let l : at < 17 = ltb-true _ _ t in OwnWay.passes (inl l) (sym (items.own-early s at l)))
    λ f.
    let late : 17 ≤ at = ltb-false _ _ f in
    by (ltb (length s) (at + 1))
    (λ t. let l : length s < at + 1 = ltb-true _ _ t in OwnWay.passes (inr (inl l)) (sym (items.own-cut s at late l)))
    λ g. let fits : at + 1 ≤ length s = ltb-false _ _ g in go late fits (own_run s at) refl
  where
    go : 17 ≤ at → at + 1 ≤ length s → (x : Run) → own_run s at ≡ x → OwnWay s at
    go late fits None q = OwnWay.passes (inr (inr (past-found (num_descriptors s at) s (descriptors_at s at) q))) (sym (items.own-past s at late fits q))
    go late fits (Some end) q =
        let not : ¬ OwnPasses s at
        = λ p. ⊎_elim (λ l. omega arith)
        (λ p. ⊎_elim (λ l. omega arith)
        (λ w. let z : None ≡ Some end = sym (found-past (num_descriptors s at) s (descriptors_at s at) w) ∙ q in
        let y : ◌≡◌ {A = ℕ} 0 1 = cc in omega arith) p) p in
        by (ltb end (length s))
        (λ t. let l : end < length s = ltb-true _ _ t in OwnWay.left not end q l (sym (items.own-left s at late fits end q l)))
        λ h.
        let high : length s ≤ end = ltb-false _ _ h in
        let low : end ≤ length s = (run_lies _ s (at + 1) end fits q).1 in
        let same : end ≡ length s = omega arith in
        OwnWay.reads not (q ∙ ap Some same) (sym (items.own-reads s at late fits end q high) ∙ rw same)

module _ (s : List ℕ) (at : ℕ) where
  own-refused : (n : Refusal) → read_of s ≡ Err n → own_of s at ≡ Err n
  own-refused n e = sym (items.own-refused s at n e)

  is-there : Begun s → own_of s at ≡ own_at s at
  is-there w = sym (items.own-there s at (programme_of s) (begun-reads s w))

  -- the fields before the items are refused, or they are held
  data Either : Type 0 where
    first : (n : Refusal) → read_of s ≡ Err n → own_of s at ≡ Err n → Either
    held : Begun s → Either

  either : Either
  either = go (way s)
    where
      go : Way s → Either
      go (Way.own n q r) = Either.first n r (own-refused n r)
      go (Way.other o r) = Either.first ProgrammeOtherTable r (own-refused ProgrammeOtherTable r)
      go (Way.short o x r) = Either.first ProgrammePassesEnd r (own-refused ProgrammePassesEnd r)
      go (Way.whole o x r) = Either.held (o, x)

  pub own_first : OwnFirst s at
  own_first n d c = (go either, own-refused n)
    where
      here : OwnWay s at → own_at s at ≡ Err n → read_of s ≡ Err n
      here (OwnWay.passes p q) x = absurd (d (own-numbers (sym x ∙ q)))
      here (OwnWay.left p end r l q) x = absurd (c (own-numbers (sym x ∙ q)))
      here (OwnWay.reads p r q) x = own-no (sym x ∙ q)

      go : Either → own_of s at ≡ Err n → read_of s ≡ Err n
      go (Either.first m r e) x = r ∙ ap Err (own-numbers (sym e ∙ x))
      go (Either.held w) x = here (own-way s at) (sym (is-there w) ∙ x)

  pub own_43 : Own43 s at
  own_43 = (go either, ⊎_elim (λ h. own-refused ProgrammePassesEnd ((read_43 s).1 h)) (λ h. is-there h.0 ∙ back h.1 (own-way s at)))
    where
      here : OwnWay s at → own_at s at ≡ Err ProgrammePassesEnd → OwnPasses s at
      here (OwnWay.passes p q) x = p
      here (OwnWay.left p end r l q) x = absurd (let z : ◌≡◌ {A = ℕ} 44 43 = ap number (own-numbers (sym q ∙ x)) in omega arith)
      here (OwnWay.reads p r q) x = own-no (sym x ∙ q)

      go : Either → own_of s at ≡ Err ProgrammePassesEnd → (OfNrtIt s × (length s < 17)) ⊎ (Begun s × OwnPasses s at)
      go (Either.first m r e) x = inl ((read_43 s).0 (r ∙ ap Err (own-numbers (sym e ∙ x))))
      go (Either.held w) x = inr (w, here (own-way s at) (sym (is-there w) ∙ x))

      back : OwnPasses s at → OwnWay s at → own_at s at ≡ Err ProgrammePassesEnd
      back h (OwnWay.passes p q) = q
      back h (OwnWay.left p end r l q) = absurd (p h)
      back h (OwnWay.reads p r q) = absurd (p h)

  -- no number of the fields before the items is 44
  never-44 : read_of s ≡ Err ProgrammeBytesLeft → ⊥
  never-44 e =
      ⊎_elim (λ h. none_between 44 h (omega arith) (omega arith))
      (λ h. ⊎_elim (λ z. let y : ◌≡◌ {A = ℕ} 44 43 = ap number z in omega arith) (λ z. let y : ◌≡◌ {A = ℕ} 44 45 = ap number z in omega arith) h)
      (read_range s ProgrammeBytesLeft e)

  pub own_44 : Own44 s at
  own_44 = (go either, λ h. is-there h.0 ∙ back h.1 h.2 (own-way s at))
    where
      here : OwnWay s at → own_at s at ≡ Err ProgrammeBytesLeft → (¬ OwnPasses s at) × OwnLeaves s at
      here (OwnWay.passes p q) x = absurd (let z : ◌≡◌ {A = ℕ} 43 44 = ap number (own-numbers (sym q ∙ x)) in omega arith)
      here (OwnWay.left p end r l q) x = (p, (end, r, l))
      here (OwnWay.reads p r q) x = own-no (sym x ∙ q)

      go : Either → own_of s at ≡ Err ProgrammeBytesLeft → Begun s × (¬ OwnPasses s at) × OwnLeaves s at
      go (Either.first m r e) x = absurd (never-44 (r ∙ ap Err (own-numbers (sym e ∙ x))))
      go (Either.held w) x = let h = here (own-way s at) (sym (is-there w) ∙ x) in (w, h.0, h.1)

      back : (¬ OwnPasses s at) → OwnLeaves s at → OwnWay s at → own_at s at ≡ Err ProgrammeBytesLeft
      back n v (OwnWay.passes p q) = absurd (n p)
      back n v (OwnWay.left p end r l q) = q
      back n v (OwnWay.reads p r q) =
          absurd
          (let e : Some v.0 ≡ Some (length s) = sym v.1 ∙ r in
          let z : v.0 ≡ length s = cc in
          let l : v.0 < length s = v.2 in
          omega arith)

  pub own_exactly : OwnExactly s at
  own_exactly l = (go either, λ h. is-there h.0 ∙ back h.1 h.2 h.3 (own-way s at))
    where
      same : {a b : Loop} → ◌≡◌ {A = Own} (Ok a) (Ok b) → a ≡ b
      same x = cc

      here : OwnWay s at → own_at s at ≡ Ok l → (¬ OwnPasses s at) × (own_run s at ≡ Some (length s)) × (l ≡ own_loop s at)
      here (OwnWay.passes p q) x = own-no (sym q ∙ x)
      here (OwnWay.left p end r y q) x = own-no (sym q ∙ x)
      here (OwnWay.reads p r q) x = (p, r, same (sym x ∙ q))

      go : Either → own_of s at ≡ Ok l → Begun s × (¬ OwnPasses s at) × (own_run s at ≡ Some (length s)) × (l ≡ own_loop s at)
      go (Either.first m r e) x = own-no (sym e ∙ x)
      go (Either.held w) x = let h = here (own-way s at) (sym (is-there w) ∙ x) in (w, h.0, h.1, h.2)

      back : (¬ OwnPasses s at) → own_run s at ≡ Some (length s) → l ≡ own_loop s at → OwnWay s at → own_at s at ≡ Ok l
      back n v e (OwnWay.passes p q) = absurd (n p)
      back n v e (OwnWay.left p end r y q) =
          absurd (let f : Some end ≡ Some (length s) = sym r ∙ v in let z : end ≡ length s = cc in omega arith)
      back n v e (OwnWay.reads p r q) = q ∙ ap Ok (sym e)

  pub own_range : OwnRange s at
  own_range n e =
      ⊎_elim (λ (z : n ≡ ProgrammePassesEnd). inr (inl z))
      (λ (d : ¬ (n ≡ ProgrammePassesEnd)). ⊎_elim (λ (z : n ≡ ProgrammeBytesLeft). inr (inr (inl z)))
      (λ (c : ¬ (n ≡ ProgrammeBytesLeft)). ⊎_elim (λ a. inl a) (λ b. ⊎_elim (λ x. inr (inl x)) (λ x. inr (inr (inr x))) b)
      (read_range s n ((own_first n d c).0 e))) (same_refusal n ProgrammeBytesLeft)) (same_refusal n ProgrammePassesEnd)
