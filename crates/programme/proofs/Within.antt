-- What is known of an item and of the table's own loop that are read.
--   item-stands              where the item lies
--   own-ends, own-within     where the loop lies; its place and length fit 16 bits
use mathlib.Core.Path.{◌≡◌, refl, sym, ap, ◌∙◌}
use mathlib.Core.List.{List}
use Prim.Native.Nat.{ℕ, ◌+◌, ◌-◌, ◌*◌, ◌<◌, ◌≤◌}
use native.Mathlib.Omega.{arith}
use lib.Dec.{ltb}
use lib.ListN.{length}
use borrow.Author.Tests.{ltb-true, ltb-false}
use Rattle.base.specs.Bytes.{byte}
use Rattle.base.proofs.Cases.{by}
use Rattle.std.specs.Prelude.{Ok, Err, Some, None}
use Rattle.refusal.specs.declared.Refusal.{Refusal}
use Rattle.refusal.specs.declared.Refusal.TheVariants.{ProgrammePassesEnd, ProgrammeBytesLeft}
use Rattle.programme.specs.Run.{Run}
use Rattle.programme.specs.Table.{content_descriptors_at}
use Rattle.programme.specs.Reading.{Reading, Step, Own, read_of, item_run, item_at, own_run, own_at, own_of}
use Rattle.programme.specs.declared.Programme.{Programme}
use Rattle.programme.specs.declared.Loop.{Loop}
use Rattle.programme.specs.declared.Item.{Item}
use Rattle.programme.proofs.Readings.{Listed, listed}
use Rattle.programme.proofs.Runs.{run_lies}
use Rattle.programme.proofs.Items.{item_to, item-early, item-cut, item-past, item-reads}
use Rattle.programme.proofs.Items.{own-early, own-cut, own-past, own-left, own-reads, own-refused, own-there}

-- the table's own loop, where it is read
pub record Ends (s : List ℕ) (at : ℕ) (l : Loop) : Type 0 where
  pub late : 17 ≤ at
  pub run : own_run s at ≡ Some (length s)
  pub says : l ≡ record { count = byte s at; place = at + 1; length = length s - (at + 1) }
  pub fits : at + 1 ≤ length s
  pub programme : Programme
  pub reads : Listed s programme

apart : {P : Type 0} (n : Refusal) (l : Loop) → Err n ≡ Ok l → P
apart n l e = absurd (let z : ◌≡◌ {A = ℕ} 0 1 = cc in omega arith)

module _ (s : List ℕ) (at : ℕ) (l : Loop) where
  ends_at : (p : Programme) → Listed s p → own_at s at ≡ Ok l → Ends s at l
  ends_at p r e =
      by (ltb at 17)
      (λ t. apart ProgrammePassesEnd l (own-early s at (ltb-true _ _ t) ∙ e))
      λ f.
      let late : 17 ≤ at = ltb-false _ _ f in
      by (ltb (length s) (at + 1))
      (λ t. apart ProgrammePassesEnd l (own-cut s at late (ltb-true _ _ t) ∙ e))
      λ g. let fits : at + 1 ≤ length s = ltb-false _ _ g in go late fits (own_run s at) refl
    where
      go : 17 ≤ at → at + 1 ≤ length s → (x : Run) → own_run s at ≡ x → Ends s at l
      go late fits None q = apart ProgrammePassesEnd l (own-past s at late fits q ∙ e)
      go late fits (Some end) q =
          by (ltb end (length s))
          (λ t. apart ProgrammeBytesLeft l (own-left s at late fits end q (ltb-true _ _ t) ∙ e))
          λ h.
          let high : length s ≤ end = ltb-false _ _ h in
          let low : end ≤ length s = (run_lies _ s (at + 1) end fits q).1 in
          let same : end ≡ length s = omega arith in
          let w : Ok (record { count = byte s at; place = at + 1; length = end - (at + 1) }) ≡ Ok l
          = own-reads s at late fits end q high ∙ e in
          record {
            late = late;
            run = q ∙ ap Some same;
            says = sym (loops w) ∙ rw same;
            fits = fits;
            programme = p;
            reads = r;
          }
        where
          loops : {a b : Loop} → ◌≡◌ {A = Own} (Ok a) (Ok b) → a ≡ b
          loops x = cc

  pub own-ends : own_of s at ≡ Ok l → Ends s at l
  own-ends e = go (read_of s) refl
    where
      go : (r : Reading) → read_of s ≡ r → Ends s at l
      go (Err n) q = apart n l (own-refused s at n q ∙ e)
      go (Ok p) q = ends_at p (listed s p q) (own-there s at p q ∙ e)

  pub own-within : own_of s at ≡ Ok l → (l.place < 65536) × (l.length < 65536)
  own-within e =
      let x = own-ends e in
      let small : length s ≤ 1024 = x.reads.small in
      let fits : at + 1 ≤ length s = x.fits in
      let place : l.place ≡ at + 1 = ap (λ (y : Loop). y.place) x.says in
      let long : l.length ≡ length s - (at + 1) = ap (λ (y : Loop). y.length) x.says in
      (omega arith, omega arith)

-- an item, where it is read
pub record Stands (s : List ℕ) (at : ℕ) (i : Item) : Type 0 where
  pub late : 17 ≤ at
  pub fits : content_descriptors_at s at ≤ length s
  pub end : ℕ
  pub run : item_run s at ≡ Some end
  pub low : content_descriptors_at s at ≤ end
  pub high : end ≤ length s
  pub says : i ≡ item_to s at end

module _ (s : List ℕ) (at : ℕ) (i : Item) where
  unlike-item : {P : Type 0} → Err ProgrammePassesEnd ≡ Ok (Some i) → P
  unlike-item e = absurd (let z : ◌≡◌ {A = ℕ} 0 1 = cc in omega arith)

  pub item-stands : item_at s at ≡ Ok (Some i) → Stands s at i
  item-stands e =
      by (ltb at 17)
      (λ t. unlike-item (item-early s at (ltb-true _ _ t) ∙ e))
      λ f.
      let late : 17 ≤ at = ltb-false _ _ f in
      by (ltb (length s) (content_descriptors_at s at))
      (λ t. unlike-item (item-cut s at (ltb-true _ _ t) ∙ e))
      λ g. let fits : content_descriptors_at s at ≤ length s = ltb-false _ _ g in go late fits (item_run s at) refl
    where
      items : {a b : Item} → ◌≡◌ {A = Step} (Ok (Some a)) (Ok (Some b)) → a ≡ b
      items x = cc

      go : 17 ≤ at → content_descriptors_at s at ≤ length s → (x : Run) → item_run s at ≡ x → Stands s at i
      go late fits None q = unlike-item (item-past s at q ∙ e)
      go late fits (Some end) q =
          let lies = run_lies _ s (content_descriptors_at s at) end fits q in
          let low : content_descriptors_at s at + 2 * _ ≤ end = lies.0 in
          record {
            late = late;
            fits = fits;
            end = end;
            run = q;
            low = omega arith;
            high = lies.1;
            says = sym (items (item-reads s at late fits end q ∙ e));
          }
