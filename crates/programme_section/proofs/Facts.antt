-- What is known of a section by how it was read.
--   left-over        where bytes are left over, num_descriptors stands in the section
--   item-facts       an item that was read lies in the section
--   name-fits        and so does its name
use mathlib.Core.Path.{◌≡◌, refl, ap, ◌∙◌}
use mathlib.Core.Bool.{false}
use mathlib.Core.List.{List}
use Prim.Native.Nat.{ℕ, ◌+◌, ◌<◌, ◌≤◌}
use native.Mathlib.Omega.{arith}
use lib.Dec.{ltb, leb, eqb}
use lib.ListN.{length}
use borrow.Author.Tests.{ltb-true, ltb-false, leb-true, leb-false, eqb-false}
use Rattle.base.proofs.Cases.{by}
use Rattle.base.proofs.Tables.{among}
use Rattle.std.specs.Prelude.{Result, Ok, Err, Some, None}
use Rattle.refusal.specs.Refusal.{number}
use Rattle.refusal.specs.declared.Refusal.{Refusal}
use Rattle.refusal.specs.declared.Refusal.TheVariants.{PayloadShort, WrongIndicator, LengthOutOfRange, LongerThanPayload, ShorterThanPayload, NumberAboveLast, LastAbove15, NotCurrent, KeyShort, ProgrammePassesEnd, ProgrammeBytesLeft, ProgrammeOtherTable}
use Rattle.section.specs.Section as section
use Rattle.programme.specs.Table.{content_name_at, content_name_length, content_descriptors_at}
use Rattle.programme.specs.Reading.{Reading, Step, Own, faults, programme_of, read_by, read_of, step_of, own_at, own_of}
use Rattle.programme.specs.declared.Programme.{Programme}
use Rattle.programme.specs.declared.Item.{Item}
use Rattle.programme.proofs.Readings.{Listed, listed}
use Rattle.programme.proofs.Items.{step-refused, step_over, step-item, own-early, own-cut, own-refused, own-there}
use Rattle.programme.proofs.Within.{Stands, item-stands}

-- two refusals that have two numbers
other : {P A : Type 0} (m n : Refusal) → eqb (number m) (number n) ≡ false → ◌≡◌ {A = Result A Refusal} (Err m) (Err n) → P
other m n f e = absurd (let q : m ≡ n = cc in eqb-false (number m) (number n) f (ap number q))

-- no reading is refused by bytes left over
never-44 : (s : List ℕ) → read_of s ≡ Err ProgrammeBytesLeft → ⊥
unfolding read_of section.read_of
never-44 s =
    among Err (λ r. read_by s r ≡ Err ProgrammeBytesLeft → ⊥) (section.faults s) (Ok (section.header_of s))
    (not PayloadShort refl, (not WrongIndicator refl, (not LengthOutOfRange refl, (not LongerThanPayload refl, (not ShorterThanPayload refl, (not NumberAboveLast refl, (not LastAbove15 refl, (not NotCurrent refl, (not KeyShort refl, tt)))))))))
    (among Err (λ r. r ≡ Err ProgrammeBytesLeft → ⊥) (faults s (section.header_of s).key.table) (Ok (programme_of s))
    (not ProgrammeOtherTable refl, (not ProgrammePassesEnd refl, (not ProgrammePassesEnd refl, (not ProgrammePassesEnd refl, (not ProgrammePassesEnd refl, tt)))))
    (λ e. let z : ◌≡◌ {A = ℕ} 0 1 = cc in omega arith))
  where
    not : (n : Refusal) → eqb (number n) 44 ≡ false → ◌≡◌ {A = Reading} (Err n) (Err ProgrammeBytesLeft) → ⊥
    not n f e = other n ProgrammeBytesLeft f e

module _ (s : List ℕ) (at : ℕ) where
  own-left-over : own_at s at ≡ Err ProgrammeBytesLeft → at < length s
  own-left-over e =
      by (ltb at 17)
      (λ t. other ProgrammePassesEnd ProgrammeBytesLeft refl (own-early s at (ltb-true _ _ t) ∙ e))
      (λ f.
      by (ltb (length s) (at + 1))
      (λ t. other ProgrammePassesEnd ProgrammeBytesLeft refl (own-cut s at (ltb-false _ _ f) (ltb-true _ _ t) ∙ e))
      (λ g. let l : at + 1 ≤ length s = ltb-false _ _ g in omega arith))

  pub left_over : own_of s at ≡ Err ProgrammeBytesLeft → at < length s
  left_over e = go (read_of s) refl
    where
      go : (r : Reading) → read_of s ≡ r → at < length s
      go (Err n) q =
          let w : ◌≡◌ {A = Own} (Err n) (Err ProgrammeBytesLeft) = own-refused s at n q ∙ e in
          let z : n ≡ ProgrammeBytesLeft = cc in
          absurd (never-44 s (q ∙ ap Err z))
      go (Ok p) q = own-left-over (own-there s at p q ∙ e)

-- of an item that was read
pub record ItemFacts (s : List ℕ) (at k : ℕ) (i : Item) : Type 0 where
  pub programme : Programme
  pub reads : Listed s programme
  pub fewer : k < programme.items
  pub stands : Stands s at i

module _ (s : List ℕ) (at k : ℕ) (i : Item) (e : step_of s at k ≡ Ok (Some i)) where
  pub item-facts : ItemFacts s at k i
  item-facts = go (read_of s) refl
    where
      unlike : {P : Type 0} (n : Refusal) → Err n ≡ Ok (Some i) → P
      unlike n q = absurd (let z : ◌≡◌ {A = ℕ} 0 1 = cc in omega arith)

      over : {P : Type 0} → ◌≡◌ {A = Step} (Ok None) (Ok (Some i)) → P
      over q = absurd (let z : ◌≡◌ {A = ℕ} 0 1 = cc in omega arith)

      go : (r : Reading) → read_of s ≡ r → ItemFacts s at k i
      go (Err n) q = unlike n (step-refused s at k n q ∙ e)
      go (Ok p) q =
          by (leb p.items k)
          (λ t. over (step_over s at k p q (leb-true _ _ t) ∙ e))
          (λ f.
          let l : k < p.items = leb-false _ _ f in
          record { programme = p; reads = listed s p q; fewer = l; stands = item-stands s at i (step-item s at k p q l ∙ e) })

  pub name-fits : (i.nameat + i.named ≤ length s) × (length s ≤ 1024)
  name-fits =
      let f = item-facts in
      let w = f.stands in
      let name : i.nameat ≡ content_name_at s at = ap (λ (x : Item). x.nameat) w.says in
      let long : i.named ≡ content_name_length s at = ap (λ (x : Item). x.named) w.says in
      let fits : content_descriptors_at s at ≤ length s = w.fits in
      (omega arith, f.reads.small)
