-- How far items reach that are handed out.
--   step-there                       what an item that a step finds says of the list
--   chain-within, chain-apart        items lie in the payload, each behind the one before
--   from-over, from-refused, from_next     what is handed out, by what a step finds
--   items-most, items-some                 at most so many, and one at least
--   reaches, items_few, handed-within      so they are few, and the answer fits its bits
use mathlib.Core.Path.{◌≡◌, refl, sym, ap, ◌∙◌}
use mathlib.Core.List.{List, [], ◌∷◌}
use mathlib.Core.Logic.{⊎_elim}
use Prim.Native.Nat.{ℕ, zero, suc, ◌+◌, ◌-◌, ◌*◌, ◌/◌, ◌<◌, ◌≤◌, min}
use native.Mathlib.Omega.{arith}
use lib.Dec.{ltb, leb}
use lib.ListN.{length}
use borrow.Author.Tests.{ltb-false, ltb-true, leb-true, leb-false}
use Rattle.base.proofs.Cases.{by}
use Rattle.std.specs.Prelude.{Ok, Err, Some, None}
use Rattle.refusal.specs.declared.Refusal.{Refusal}
use Rattle.refusal.specs.declared.Refusal.TheVariants.{ProgrammePassesEnd, OutputTooSmall}
use Rattle.programme.specs.Table.{content_descriptors_at}
use Rattle.programme.specs.Reading.{Reading, Step, read_of, item_at, step_of}
use Rattle.programme.specs.declared.Programme.{Programme}
use Rattle.programme.specs.declared.Item.{Item}
use Rattle.programme.proofs.Readings.{listed}
use Rattle.programme.proofs.Items.{step-refused, step_over, step-item}
use Rattle.programme.proofs.Within.{item-stands}
use Rattle.programme_items.specs.Items.{Walk, items_from, place_after, walked, walk_of, Walked}
use Rattle.programme_items.specs.Parts.{chain}
use Rattle.programme_items.specs.declared.Passed.{Passed}
use Rattle.programme_items.proofs.Chains.{chain-none, chain_next, chain-zero}
use Rattle.programme_items.proofs.Handed.{either-there, counted, walk_refused, walk-over, walk-short, walk-there}

-- the list that has an item
pub record Has (s : List ℕ) (at k : ℕ) (i : Item) : Type 0 where
  pub programme : Programme
  pub reads : read_of s ≡ Ok programme
  pub below : k < programme.items
  pub there : item_at s at ≡ Ok (Some i)

pub step-there : (s : List ℕ) (at k : ℕ) (i : Item) → step_of s at k ≡ Ok (Some i) → Has s at k i
step-there s at k i e = go (read_of s) refl
  where
    unlike : {P : Type 0} {n : Refusal} → Err n ≡ Ok (Some i) → P
    unlike q = absurd (let z : ◌≡◌ {A = ℕ} 0 1 = cc in omega arith)

    over : {P : Type 0} → ◌≡◌ {A = Step} (Ok None) (Ok (Some i)) → P
    over q = absurd (let z : ◌≡◌ {A = ℕ} 0 1 = cc in omega arith)

    go : (r : Reading) → read_of s ≡ r → Has s at k i
    go (Err n) q = unlike (step-refused s at k n q ∙ e)
    go (Ok p) q =
        by (leb p.items k)
        (λ t. over (step_over s at k p q (leb-true _ _ t) ∙ e))
        (λ f. let l : k < p.items = leb-false _ _ f in record { programme = p; reads = q; below = l; there = step-item s at k p q l ∙ e })

-- items lie in the payload, and each takes eight bytes at least
pub chain-within : (n : ℕ) (s : List ℕ) (at : ℕ) → at ≤ length s
    → (place_after at (chain n s at) ≤ length s) × (at + 8 * length (chain n s at) ≤ place_after at (chain n s at))
unfolding place_after
chain-within zero s at l = rw (chain-zero s at 0 refl) (l, omega arith)
chain-within (suc n) s at l =
    ⊎_elim
    (λ q. rw (chain-none s at (suc n) ProgrammePassesEnd q) (l, omega arith))
    (λ q.
    let i = q.0 in
    let t = item-stands s at i (sym q.1) in
    let high : t.end ≤ length s = t.high in
    let low : content_descriptors_at s at ≤ t.end = t.low in
    let next : i.next ≡ t.end = ap (λ (y : Item). y.next) t.says in
    let z : suc n - 1 ≡ n = omega arith in
    let here : chain (suc n) s at ≡ i ∷ chain n s i.next = chain_next s at (suc n) (omega arith) i q.1 ∙ ap (λ m. i ∷ chain m s i.next) z in
    let ih = chain-within n s i.next (omega arith) in
    let far : i.next + 8 * length (chain n s i.next) ≤ place_after i.next (chain n s i.next) = ih.1 in
    rw here (ih.0, omega arith))
    (either-there s at)

module _ (n : ℕ) (s : List ℕ) (at k : ℕ) where
  -- of items that are handed out
  pub record Reach (is : List Item) : Type 0 where
    pub few : length is ≤ 125
    pub after : place_after at is ≤ 1024
    pub apart : at + 8 * length is ≤ place_after at is

  pub reaches : (i : Item) → step_of s at k ≡ Ok (Some i) → Reach (items_from n s at k)
  reaches i e =
      let h = step-there s at k i e in
      let t = item-stands s at i h.there in
      let small : length s ≤ 1024 = (listed s h.programme h.reads).small in
      let late : 17 ≤ at = t.late in
      let fits : content_descriptors_at s at ≤ length s = t.fits in
      let w = chain-within (min n (h.programme.items - k)) s at (omega arith) in
      let within : place_after at (chain (min n (h.programme.items - k)) s at) ≤ length s = w.0 in
      let far : at + 8 * length (chain (min n (h.programme.items - k)) s at) ≤ place_after at (chain (min n (h.programme.items - k)) s at) = w.1 in
      rw (counted n s h.programme h.reads at k) (record { few = omega arith; after = omega arith; apart = far })

-- what is handed out, by what a step finds
module _ (s : List ℕ) (at k : ℕ) where
  pub from-none : items_from 0 s at k ≡ []
  unfolding items_from
  from-none = refl

  pub from-over : (n : ℕ) → step_of s at k ≡ Ok None → items_from n s at k ≡ []
  unfolding items_from
  from-over zero e = refl
  from-over (suc n) e = rw e

  pub from-refused : (n : ℕ) {m : Refusal} → step_of s at k ≡ Err m → items_from n s at k ≡ []
  unfolding items_from
  from-refused zero e = refl
  from-refused (suc n) e = rw e

  pub from_next : (n : ℕ) (i : Item) → step_of s at k ≡ Ok (Some i) → items_from (suc n) s at k ≡ i ∷ items_from n s i.next (k + 1)
  unfolding items_from
  from_next n i e = rw e

pub items_few : (n : ℕ) (s : List ℕ) (at k : ℕ) → length (items_from n s at k) ≤ 125
items_few n s at k = go (step_of s at k) refl
  where
    go : (x : Step) → step_of s at k ≡ x → length (items_from n s at k) ≤ 125
    go (Ok (Some i)) q = (reaches n s at k i q).few
    go (Ok None) q = rw (from-over s at k n q) (omega arith)
    go (Err m) q = rw (from-refused s at k n q) (omega arith)

-- no more than asked for, and one at least where a step finds one
pub items-most : (n : ℕ) (s : List ℕ) (at k : ℕ) → length (items_from n s at k) ≤ n
items-most zero s at k = rw (from-none s at k) (omega arith)
items-most (suc n) s at k = go (λ to. items-most n s to (k + 1)) (step_of s at k) refl
  where
    go : ((to : ℕ) → length (items_from n s to (k + 1)) ≤ n) → (x : Step) → step_of s at k ≡ x → length (items_from (suc n) s at k) ≤ suc n
    go ih (Ok (Some i)) q = let h : length (items_from n s i.next (k + 1)) ≤ n = ih i.next in rw (from_next s at k n i q) (omega arith)
    go ih (Ok None) q = rw (from-over s at k (suc n) q) (omega arith)
    go ih (Err m) q = rw (from-refused s at k (suc n) q) (omega arith)

pub items-some : (n : ℕ) (s : List ℕ) (at k : ℕ) (i : Item) → step_of s at k ≡ Ok (Some i) → 0 < n → 1 ≤ length (items_from n s at k)
items-some zero s at k i e l = absurd (omega arith)
items-some (suc n) s at k i e l = rw (from_next s at k n i e) (omega arith)

-- the answer fits its bits
pub handed-within : (s : List ℕ) (at k : ℕ) (f : List ℕ) {p : Passed} {exit : List ℕ} → walked (Ok (Some p)) exit ≡ walk_of s at k f → (p.count < 65536) × (p.next < 65536)
handed-within s at k f {p} {exit} e = go (step_of s at k) refl
  where
    walks : {a b : Walk} {x y : List ℕ} → walked a x ≡ walked b y → a ≡ b
    walks q = ap (λ (w : Walked). w.walk) q

    go : (x : Step) → step_of s at k ≡ x → (p.count < 65536) × (p.next < 65536)
    go (Err n) q = let z : Ok (Some p) ≡ Err n = walks (e ∙ sym (walk_refused s at k f q)) in absurd (let y : ◌≡◌ {A = ℕ} 0 1 = cc in omega arith)
    go (Ok None) q = let z : Ok (Some p) ≡ Ok None = walks (e ∙ sym (walk-over s at k f q)) in absurd (let y : ◌≡◌ {A = ℕ} 0 1 = cc in omega arith)
    go (Ok (Some i)) q =
        by (ltb (length f) 10)
        (λ t. let z : Ok (Some p) ≡ Err OutputTooSmall = walks (e ∙ sym (walk-short s at k f i q (ltb-true _ _ t))) in absurd (let y : ◌≡◌ {A = ℕ} 0 1 = cc in omega arith))
        (λ g.
        let z : Ok (Some p) ≡ Ok (Some (record { count = length (items_from (length f / 10) s at k); next = place_after at (items_from (length f / 10) s at k) })) = walks (e ∙ sym (walk-there s at k f i q (ltb-false _ _ g))) in
        let same : p ≡ record { count = length (items_from (length f / 10) s at k); next = place_after at (items_from (length f / 10) s at k) } = cc in
        let r = reaches (length f / 10) s at k i q in
        let few : length (items_from (length f / 10) s at k) ≤ 125 = r.few in
        let after : place_after at (items_from (length f / 10) s at k) ≤ 1024 = r.after in
        let c : p.count ≡ length (items_from (length f / 10) s at k) = ap (λ (y : Passed). y.count) same in
        let d : p.next ≡ place_after at (items_from (length f / 10) s at k) = ap (λ (y : Passed). y.next) same in
        (omega arith, omega arith))
