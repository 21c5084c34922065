-- The items of a section one by one, as the loop passes over them.
--   Going, begins                        what the loop keeps
--   goes_on, ends-refused, ends-over, ends-own      by the step at its place
--   own-whole, own-refused, own-left     the table's own loop
--   section-refused, section-items       a section, by how it reads
use mathlib.Core.Path.{◌≡◌, refl, sym, ap, ◌∙◌}
use mathlib.Core.Bool.{Bool, true, false}
use mathlib.Core.List.{List, [], ◌++◌}
use Prim.Native.Nat.{ℕ, zero, suc, ◌+◌, ◌-◌, ◌<◌, ◌≤◌}
use native.Mathlib.Omega.{arith}
use lib.ListN.{length, take, drop}
use borrow.Author.Tests.{eq-eqb, ne_eqb}
use Rattle.base.specs.Bytes.{part}
use Rattle.std.specs.Prelude.{Ok, Err, Some, None}
use Rattle.refusal.specs.Refusal.{number}
use Rattle.refusal.specs.declared.Refusal.{Refusal}
use Rattle.refusal.specs.declared.Refusal.TheVariants.{ProgrammeBytesLeft}
use Rattle.refusal.proofs.Numbers.{once}
use Rattle.text.specs.Over.{Wrote}
use Rattle.text.proofs.Writing.{Left, all_left, step, finish, none_left, then}
use Rattle.programme.specs.Run.{end_of}
use Rattle.programme.specs.Reading.{Reading, Own, read_of, step_of, own_of, own_run}
use Rattle.programme.specs.declared.Programme.{Programme}
use Rattle.programme.specs.declared.Item.{Item}
use Rattle.programme.specs.declared.Loop.{Loop}
use Rattle.programme_lines.specs.Lines.{refused_at, programme_line, item_text, list_line}
use Rattle.programme_section.specs.Section.{own_text, own_read, step_text, step_read, items_text, items_read, section_text, section_read}

module _ (n : ℕ) (s : List ℕ) (k at : ℕ) where
  -- one item of those that are left
  text-step : (left : ℕ) → 0 < left → items_text n s left k at ≡ step_text n s k at (step_of s at k) (items_text n s (left - 1) (k + 1))
  unfolding items_text
  text-step zero h = absurd (omega arith)
  text-step (suc left) h = let e : suc left - 1 ≡ left = omega arith in rw e

  read_step : (left : ℕ) → 0 < left → items_read s left k at ≡ step_read s (step_of s at k) (items_read s (left - 1) (k + 1))
  unfolding items_read
  read_step zero h = absurd (omega arith)
  read_step (suc left) h = let e : suc left - 1 ≡ left = omega arith in rw e

  text-own : (left : ℕ) → left ≡ 0 → items_text n s left k at ≡ own_text n s at (own_of s at)
  unfolding items_text
  text-own left e = rw e

  read_own : (left : ℕ) → left ≡ 0 → items_read s left k at ≡ own_read s (own_of s at)
  unfolding items_read
  read_own left e = rw e

-- item k is next, at a place: what is left of the text and of the reading is that of the items
pub record Going (n : ℕ) (s : List ℕ) (count : ℕ) (out : List ℕ) (at k place : ℕ) (now : List ℕ) (here : ℕ) : Type 0 where
  pub few : k ≤ count
  pub long : length now ≡ length out
  pub text : Left (items_text n s count 0 17) out at (items_text n s (count - k) k place) now here
  pub read : items_read s (count - k) k place ≡ items_read s count 0 17

pub begins : (n : ℕ) (s : List ℕ) (count : ℕ) (out : List ℕ) (at : ℕ) → Going n s count out at 0 17 out at
begins n s count out at =
    let e : count - 0 ≡ count = omega arith in
    record { few = omega arith; long = refl; text = rw e (all_left (items_text n s count 0 17) out at); read = rw e }

module _ {n : ℕ} {s : List ℕ} {count : ℕ} {out : List ℕ} {at k place : ℕ} {now : List ℕ} {here : ℕ} (g : Going n s count out at k place now here) where
  module _ (l : k < count) where
    pub goes_on : {now' : List ℕ} {here' : ℕ} (i : Item) (size : ℕ) → step_of s place k ≡ Ok (Some i) → size ≡ i.named
        → Wrote (item_text (take size (drop i.nameat s)) k i) now here now' here' → length now' ≡ length now
        → Going n s count out at (k + 1) i.next now' here'
    goes_on {now'} {here'} i size e q w m =
        let fewer : count - (k + 1) ≡ count - k - 1 = omega arith in
        let t : items_text n s (count - k) k place ≡ item_text (part s i.nameat i.named) k i ++ items_text n s (count - k - 1) (k + 1) i.next
        = text-step n s k place (count - k) (omega arith) ∙ rw e in
        let r : items_read s (count - k) k place ≡ items_read s (count - k - 1) (k + 1) i.next = read_step n s k place (count - k) (omega arith) ∙ rw e in
        record {
          few = omega arith;
          long = m ∙ g.long;
          text = rw fewer (step (rw t at g.text) (rw q at w));
          read = rw (fewer, ← r) g.read;
        }

    pub ends-refused : {now' : List ℕ} {here' : ℕ} (m : Refusal) → step_of s place k ≡ Err m → Wrote (refused_at n (number m) place) now here now' here'
        → Wrote (items_text n s count 0 17) out at now' here' × (false ≡ items_read s count 0 17)
    ends-refused m e w =
        let t : items_text n s (count - k) k place ≡ refused_at n (number m) place = text-step n s k place (count - k) (omega arith) ∙ rw e in
        let r : items_read s (count - k) k place ≡ false = read_step n s k place (count - k) (omega arith) ∙ rw e in
        (finish g.text (rw t w), sym r ∙ g.read)

    pub ends-over : step_of s place k ≡ Ok None → Wrote (items_text n s count 0 17) out at now here × (false ≡ items_read s count 0 17)
    ends-over e =
        let t : items_text n s (count - k) k place ≡ [] = text-step n s k place (count - k) (omega arith) ∙ rw e in
        let r : items_read s (count - k) k place ≡ false = read_step n s k place (count - k) (omega arith) ∙ rw e in
        (none_left (rw t at g.text), sym r ∙ g.read)

  pub ends-own : {now' : List ℕ} {here' : ℕ} {whole : Bool} → count ≤ k → Wrote (own_text n s place (own_of s place)) now here now' here' → whole ≡ own_read s (own_of s place)
      → Wrote (items_text n s count 0 17) out at now' here' × (whole ≡ items_read s count 0 17)
  ends-own l w e =
      let t = text-own n s k place (count - k) (omega arith) in
      let r = read_own n s k place (count - k) (omega arith) in
      (finish g.text (rw t w), e ∙ sym r ∙ g.read)

-- the table's own loop, by what was found
module _ (n : ℕ) (s : List ℕ) (at : ℕ) {out after : List ℕ} {here end : ℕ} where
  pub own-whole : (o : Own) (l : Loop) → o ≡ own_of s at → o ≡ Ok l → Wrote (list_line l) out here after end
      → Wrote (own_text n s at (own_of s at)) out here after end × (true ≡ own_read s (own_of s at))
  own-whole o l p q w = rw (← p, q) (w, refl)

  module _ (o : Own) (m : Refusal) (p : o ≡ own_of s at) (q : o ≡ Err m) where
    pub own-left : (place : ℕ) → m ≡ ProgrammeBytesLeft → place ≡ end_of (own_run s at) → Wrote (refused_at n (number m) place) out here after end
        → Wrote (own_text n s at (own_of s at)) out here after end × (false ≡ own_read s (own_of s at))
    own-left place e f w = rw (← p, q, eq-eqb (number m) 44 (ap number e), ← f) (w, refl)

    pub own-refused : (m ≡ ProgrammeBytesLeft → ⊥) → Wrote (refused_at n (number m) at) out here after end
        → Wrote (own_text n s at (own_of s at)) out here after end × (false ≡ own_read s (own_of s at))
    own-refused d w = rw (← p, q, ne_eqb (number m) 44 (λ e. d (once m ProgrammeBytesLeft e))) (w, refl)

-- a section, by how it reads
module _ (n : ℕ) (s : List ℕ) {out after : List ℕ} {at end : ℕ} where
  pub section-refused : (r : Reading) (m : Refusal) → r ≡ read_of s → r ≡ Err m → Wrote (refused_at n (number m) 8) out at after end
      → Wrote (section_text n s) out at after end × (false ≡ section_read s)
  unfolding section_text section_read
  section-refused r m p q w = rw (← p, q) (w, refl)

  pub section-items : (r : Reading) (f : Programme) → r ≡ read_of s → r ≡ Ok f → {mid : List ℕ} {between : ℕ} {whole : Bool}
      → Wrote (programme_line n f) out at mid between → Wrote (items_text n s f.items 0 17) mid between after end → whole ≡ items_read s f.items 0 17
      → Wrote (section_text n s) out at after end × (whole ≡ section_read s)
  unfolding section_text section_read
  section-items r f p q v w e = rw (← p, q) (then v w, e)
