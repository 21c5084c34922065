-- What it means that a section is read (`specs/Theorems.antt` has the words).
--   section-read
use mathlib.Core.Path.{◌≡◌, refl, sym, ap}
use mathlib.Core.Bool.{true}
use mathlib.Core.List.{List, ◌∷◌}
use mathlib.Core.Logic.{◌↔◌}
use Prim.Native.Nat.{ℕ, zero, suc, ◌+◌, ◌<◌, ◌≤◌}
use native.Mathlib.Nat.{zero-add}
use native.Mathlib.Omega.{arith}
use Rattle.base.proofs.Cases.{unlike}
use Rattle.programme.specs.Table.{num_content_items}
use Rattle.programme.specs.Reading.{Reading, Step, Own, read_of, step_of, own_of, programme_of}
use Rattle.programme.specs.Answer.{reading_told, own_told}
use Rattle.std.specs.Prelude.{Ok, Err, Some, None}
use Rattle.refusal.specs.Refusal.{number}
use Rattle.refusal.proofs.Numbers.{in_byte}
use Rattle.programme.specs.declared.Programme.{Programme}
use Rattle.programme.proofs.Items as items
use Rattle.programme_laws.specs.Walk.{onward, walk, walk_of, reached, Accepted, Unrefused, answers_to}
use Rattle.programme_laws.proofs.ExactlyWhen as when
use Rattle.programme_section.specs.Section.{own_read, step_read, items_read, read_read, section_read}
use Rattle.programme_text_laws.specs.Theorems.{SectionRead}

module _ (s : List ℕ) where
  -- the table's own loop
  own_exactly : (at : ℕ) → (own_read s (own_of s at) ≡ true) ↔ ((own_told (own_of s at)).number ≡ 0)
  own_exactly at = go (own_of s at) refl
    where
      go : (x : Own) → own_of s at ≡ x → (own_read s x ≡ true) ↔ ((own_told x).number ≡ 0)
      go (Ok l) e = (λ t. refl, λ z. refl)
      go (Err r) e = (λ f. absurd (unlike (sym f)), λ z. absurd (let l : 0 < number r = (in_byte r).0 in omega arith))

  module _ (p : Programme) (e : read_of s ≡ Ok p) where
    -- while items are left no step is over
    not-over : (at k left : ℕ) → k + suc left ≡ p.items → step_of s at k ≡ Ok None → ⊥
    not-over at k left q o =
        let r = (when.read_exactly s p).0 e in
        let many : p.items ≡ (programme_of s).items = ap (λ (x : Programme). x.items) r.1 in
        let past : (programme_of s).items ≤ k = ((when.step_over s at k).0 o).1 in
        omega arith

    -- the items from one on, and the loop behind them
    walked : (left k at : ℕ) → k + left ≡ p.items
        → (items_read s left k at ≡ true)
        ↔ (Accepted (walk (suc left) s at k) × ((own_told (own_of s (reached at (walk (suc left) s at k)))).number ≡ 0))
    unfolding items_read walk
    walked zero k at q =
        rw (← items.step_over s at k p e (omega arith)) (λ t. ((refl, tt), (own_exactly at).0 t), λ a. (own_exactly at).1 a.1)
    walked (suc left) k at q = go (λ to. walked left (k + 1) to (omega arith)) (step_of s at k) refl
      where
        go : ((to : ℕ)
            → (items_read s left (k + 1) to ≡ true)
            ↔ (Accepted (walk (suc left) s to (k + 1)) × ((own_told (own_of s (reached to (walk (suc left) s to (k + 1))))).number ≡ 0)))
            → (x : Step)
            → step_of s at k ≡ x
            → (step_read s x (items_read s left (k + 1)) ≡ true)
            ↔ (Accepted (x ∷ onward x (λ next. walk (suc left) s next (k + 1)))
            × ((own_told (own_of s (reached at (x ∷ onward x (λ next. walk (suc left) s next (k + 1)))))).number ≡ 0))
        go ih (Ok (Some i)) o = (λ t. let r = (ih i.next).0 t in ((refl, r.0), r.1), λ a. (ih i.next).1 (a.0.1, a.1))
        go ih (Err m) o =
            (λ f. absurd (unlike (sym f)), λ a. absurd (let l : 0 < number m = (in_byte m).0 in let z : number m ≡ 0 = a.0.0 in omega arith))
        go ih (Ok None) o = absurd (not-over at k left q o)

  pub section-read : SectionRead s
  unfolding section_read
  section-read = go (read_of s) refl
    where
      go : (r : Reading) → read_of s ≡ r → (read_read s r ≡ true) ↔ Unrefused (answers_to s)
      go (Err r) e =
          (λ f. absurd (unlike (sym f)), λ u. absurd (let l : 0 < number r = (in_byte r).0 in let z : number r ≡ 0 = rw e at u.reading in omega arith))
      go (Ok p) e =
          let many : p.items ≡ num_content_items s = ap (λ (x : Programme). x.items) ((when.read_exactly s p).0 e).1 in
          let steps : walk (suc p.items) s 17 0 ≡ walk_of s = ap (λ n. walk n s 17 0) (omega arith) in
          let w = walked p e p.items 0 17 (zero-add p.items) in (
            λ t.
                let a = w.0 t in
                record { reading = ap (λ r. (reading_told r).number) e; steps = rw steps at a.0; own = rw steps at a.1 },
            λ u. w.1 (rw steps u.steps, rw steps u.own),
          )
