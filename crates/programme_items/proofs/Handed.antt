-- Items that are handed out, as the code comes by them.
--   none_left, over-left, items_left         what it says of the reading how many are left from a number on
--   told_none, told-one                      what one item's room tells
--   walk_refused, walk-over, walk-short, walk_none, walk-handed     each way out of a call
use mathlib.Core.Path.{◌≡◌, refl, sym, ap, subst, ◌∙◌}
use mathlib.Core.List.{List, [], ◌∷◌, ◌++◌}
use mathlib.Core.Logic.{◌⊎◌, ⊎_elim, inl, inr}
use Prim.Native.Nat.{ℕ, zero, suc, ◌+◌, ◌-◌, ◌*◌, ◌/◌, ◌<◌, ◌≤◌, min}
use native.Mathlib.Omega.{arith}
use lib.Dec.{ltb, leb}
use lib.ListN.{length, get_or, drop}
use borrow.Author.Tests.{lt-ltb, le-ltb, ltb-true, ltb-false, leb-true, leb-false}
use Rattle.base.specs.Octets.{Octets}
use Rattle.base.proofs.Cases.{by}
use Rattle.std.specs.Prelude.{Ok, Err, Some, None}
use Rattle.refusal.specs.declared.Refusal.{Refusal}
use Rattle.refusal.specs.declared.Refusal.TheVariants.{ProgrammePassesEnd, OutputTooSmall}
use Rattle.answers.specs.Answers.{Out, out}
use Rattle.programme.specs.Reading.{Reading, read_of, item_at, step_of}
use Rattle.programme.specs.Count.{count_of}
use Rattle.programme_items.specs.Items.{numbers_of, item_back, onward, items_from, all_numbers, place_after, walked, handed, walk_of}
use Rattle.programme_items.specs.Parts.{Lies, left_by, chain, told_by, lies_of, Narrow}
use Rattle.programme.specs.declared.Programme.{Programme}
use Rattle.programme.specs.declared.Item.{Item}
use Rattle.programme.proofs.Items.{item_to, item-early, step-item}
use Rattle.programme_items.proofs.Places.{lies-item, lies-none}
use Rattle.programme_items.proofs.Chains.{chain-none, chain_next, chain-zero, chain-short}
use Rattle.programme_items.proofs.Narrows.{narrow, back}

-- the list's fields, where items are left
pub record Remains (s : List ℕ) (k n : ℕ) : Type 0 where
  pub programme : Programme
  pub reads : read_of s ≡ Ok programme
  pub below : k < programme.items
  pub many : n ≡ programme.items - k

module _ (s : List ℕ) (k : ℕ) where
  unlike : {P : Type 0} → ◌≡◌ {A = ℕ} 0 1 → P
  unlike z = absurd (omega arith)

  pub none_left : (n : Refusal) → Err n ≡ left_by k (count_of (read_of s)) → read_of s ≡ Err n
  none_left n e = go (read_of s) refl
    where
      go : (r : Reading) → read_of s ≡ r → read_of s ≡ Err n
      go (Err m) q =
          let z : Err n ≡ Err m = e ∙ ap (λ r. left_by k (count_of r)) q in let y : m ≡ n = cc in q ∙ ap Err y
      go (Ok p) q =
          let z : Err n ≡ left_by k (Ok p.items) = e ∙ ap (λ r. left_by k (count_of r)) q in
          by (leb p.items k)
          (λ t. let y : Err n ≡ Ok None = z ∙ rw t in unlike cc)
          (λ f. let y : Err n ≡ Ok (Some (p.items - k)) = z ∙ rw f in unlike cc)

  pub over-left : Ok None ≡ left_by k (count_of (read_of s)) → (p : Programme) × ((read_of s ≡ Ok p) × (p.items ≤ k))
  over-left e = go (read_of s) refl
    where
      go : (r : Reading) → read_of s ≡ r → (p : Programme) × ((read_of s ≡ Ok p) × (p.items ≤ k))
      go (Err m) q = let z : Ok None ≡ Err m = e ∙ ap (λ r. left_by k (count_of r)) q in unlike cc
      go (Ok p) q =
          let z : Ok None ≡ left_by k (Ok p.items) = e ∙ ap (λ r. left_by k (count_of r)) q in
          by (leb p.items k)
          (λ t. (p, (q, leb-true _ _ t)))
          (λ f. let y : Ok None ≡ Ok (Some (p.items - k)) = z ∙ rw f in unlike cc)

  pub items_left : (n : ℕ) → Ok (Some n) ≡ left_by k (count_of (read_of s)) → Remains s k n
  items_left n e = go (read_of s) refl
    where
      go : (r : Reading) → read_of s ≡ r → Remains s k n
      go (Err m) q = let z : Ok (Some n) ≡ Err m = e ∙ ap (λ r. left_by k (count_of r)) q in unlike cc
      go (Ok p) q =
          let z : Ok (Some n) ≡ left_by k (Ok p.items) = e ∙ ap (λ r. left_by k (count_of r)) q in
          by (leb p.items k)
          (λ t. let y : Ok (Some n) ≡ Ok None = z ∙ rw t in unlike cc)
          (λ f. let y : Ok (Some n) ≡ Ok (Some (p.items - k)) = z ∙ rw f in record { programme = p; reads = q; below = leb-false _ _ f; many = cc })

-- at a place stands an item, or 43 is said of it
pub either-there : (s : List ℕ) (at : ℕ) → (Err ProgrammePassesEnd ≡ item_at s at) ⊎ ((i : Item) × (Ok (Some i) ≡ item_at s at))
either-there s at =
    by (ltb at 17)
    (λ t. inl (item-early s at (ltb-true _ _ t)))
    (λ f. let late : 17 ≤ at = ltb-false _ _ f in go late (lies_of s at) refl)
  where
    go : 17 ≤ at → (x : Lies) → lies_of s at ≡ x → (Err ProgrammePassesEnd ≡ item_at s at) ⊎ ((i : Item) × (Ok (Some i) ≡ item_at s at))
    go late (Some p) q = inr (item_to s at p.next, lies-item s at late p (sym q))
    go late None q = inl (lies-none s at (sym q))

-- what was told, where it was something and where it was nothing
module _ (s : List ℕ) (at : ℕ) (f : List ℕ) (most r : ℕ) (exit : List ℕ) (e : out r exit ≡ told_by f (chain most s at)) (m : 0 < most) where
  numbers : r ≡ 10 * length (chain most s at)
  numbers = ap (λ (o : Out). o.code) e

  after : exit ≡ all_numbers (chain most s at) ++ drop (10 * length (chain most s at)) f
  after = ap (λ (o : Out). o.out) e

  pub told_none : r ≡ 0 → (Err ProgrammePassesEnd ≡ item_at s at) × (exit ≡ f)
  unfolding all_numbers
  told_none z =
      ⊎_elim
      (λ q. (q, after ∙ rw (chain-none s at most ProgrammePassesEnd q)))
      (λ q.
      let c = chain_next s at most m q.0 q.1 in
      let h : length (chain most s at) ≡ suc (length (chain (most - 1) s q.0.next)) = ap length c in
      let n = numbers in absurd (omega (arith, n, h)))
      (either-there s at)

  -- the item at the place, and those behind it
  pub record One : Type 0 where
    pub item : Item
    pub here : Ok (Some item) ≡ item_at s at
    pub items : chain most s at ≡ item ∷ chain (most - 1) s item.next

  pub told-one : ¬ (r ≡ 0) → One
  told-one z =
      ⊎_elim
      (λ q. let c = chain-none s at most ProgrammePassesEnd q in let h : length (chain most s at) ≡ 0 = ap length c in let n = numbers in absurd (z (omega (arith, n, h))))
      (λ q. record { item = q.0; here = q.1; items = chain_next s at most m q.0 q.1 })
      (either-there s at)

  -- ten numbers, and others behind them
  first-ten : (z : ¬ (r ≡ 0)) → (rest : List ℕ) × (exit ≡ numbers_of (told-one z).item ++ rest)
  unfolding all_numbers
  first-ten z =
      let o = told-one z in (
        all_numbers (chain (most - 1) s o.item.next) ++ drop (10 * length (chain most s at)) f,
        after ∙ ap (λ is. all_numbers is ++ drop (10 * length (chain most s at)) f) o.items,
      )

  pub told-narrow : Octets s → ¬ (r ≡ 0) → Narrow exit
  told-narrow b z = let t = first-ten z in let o = told-one z in subst Narrow (sym t.1) (narrow s at b o.item o.here t.0)

  pub told_back : ¬ (r ≡ 0) → Ok (Some (item_back exit)) ≡ item_at s at
  told_back z =
      let t = first-ten z in
      let o = told-one z in ap (λ x. Ok (Some (item_back x))) t.1 ∙ ap (λ x. Ok (Some x)) (back s at o.item o.here t.0) ∙ o.here

pub told-within : (s : List ℕ) (at : ℕ) (f : List ℕ) (most r : ℕ) (exit : List ℕ) → out r exit ≡ told_by f (chain most s at) → most ≤ length f / 10 → r ≤ length f
told-within s at f most r exit e l =
    let n : r ≡ 10 * length (chain most s at) = ap (λ (o : Out). o.code) e in
    let h : length (chain most s at) ≤ most = chain-short most s at in omega arith

-- what follows the place, by what stands there
none-follow : (s : List ℕ) (at m : ℕ) (rest : Item → List Item) → Err ProgrammePassesEnd ≡ item_at s at → onward (item_at s at) rest ≡ chain (suc m) s at
none-follow s at m rest q = let none : onward (item_at s at) rest ≡ [] = rw (sym q) in none ∙ sym (chain-none s at (suc m) ProgrammePassesEnd q)

some-follow : (s : List ℕ) (at m : ℕ) (rest : Item → List Item) (i : Item) → Ok (Some i) ≡ item_at s at → rest i ≡ chain m s i.next
    → onward (item_at s at) rest ≡ chain (suc m) s at
some-follow s at m rest i q e =
    let some : onward (item_at s at) rest ≡ i ∷ rest i = rw (sym q) in
    let y : suc m - 1 ≡ m = omega arith in
    let next : chain (suc m) s at ≡ i ∷ chain (suc m - 1) s i.next = chain_next s at (suc m) (omega arith) i q in
    some ∙ ap (λ is. i ∷ is) (e ∙ ap (λ x. chain x s i.next) (sym y)) ∙ sym next

-- counted by the list, or by what is left
pub counted : (n : ℕ) (s : List ℕ) (p : Programme) → read_of s ≡ Ok p → (at k : ℕ) → items_from n s at k ≡ chain (min n (p.items - k)) s at
unfolding items_from step_of
counted zero s p e at k = sym (chain-zero s at _ (omega arith))
counted (suc n) s p e at k =
    by (leb p.items k)
    (λ t. let l : p.items ≤ k = leb-true _ _ t in rw (e, t) (sym (chain-zero s at _ (omega arith))))
    (λ f.
    let l : k < p.items = leb-false _ _ f in
    let z : min (suc n) (p.items - k) ≡ suc (min n (p.items - (k + 1))) = omega arith in
    rw (e, f, z)
    (⊎_elim
    (λ q. none-follow s at (min n (p.items - (k + 1))) _ q)
    (λ q. some-follow s at (min n (p.items - (k + 1))) _ q.0 q.1 (counted n s p e q.0.next (k + 1)))
    (either-there s at)))

-- the last number of some items is the place after them
pub last-next : (at : ℕ) (i : Item) (is : List Item) (rest : List ℕ) → get_or (all_numbers (i ∷ is) ++ rest) (10 * suc (length is) - 1) 0 ≡ place_after at (i ∷ is)
unfolding all_numbers place_after
last-next at i [] rest = refl
last-next at i (j ∷ js) rest =
    let z : 10 * suc (suc (length js)) - 1 ≡ suc (suc (suc (suc (suc (suc (suc (suc (suc (suc (10 * suc (length js) - 1)))))))))) = omega arith in rw z (last-next i.next j js rest)

module _ (s : List ℕ) (at k : ℕ) (f : List ℕ) where
  pub walk_refused : {n : Refusal} → step_of s at k ≡ Err n → walked (Err n) f ≡ walk_of s at k f
  unfolding walk_of
  walk_refused e = rw e

  pub walk-over : step_of s at k ≡ Ok None → walked (Ok None) f ≡ walk_of s at k f
  unfolding walk_of
  walk-over e = rw e

  module _ (i : Item) (e : step_of s at k ≡ Ok (Some i)) where
    pub walk-short : length f < 10 → walked (Err OutputTooSmall) f ≡ walk_of s at k f
    unfolding walk_of
    walk-short h = rw (e, lt-ltb (length f) 10 h)

    pub walk-there : 10 ≤ length f → handed at f (items_from (length f / 10) s at k) ≡ walk_of s at k f
    unfolding walk_of
    walk-there h = rw (e, le-ltb (length f) 10 h)

  -- by what was told
  module _ {n : ℕ} (v : Remains s k n) {r : ℕ} {exit : List ℕ} (long : 10 ≤ length f) (e : out r exit ≡ told_by f (chain (min (length f / 10) n) s at)) where
    step : item_at s at ≡ step_of s at k
    step = step-item s at k v.programme v.reads v.below

    some : 0 < min (length f / 10) n
    some = let b : k < v.programme.items = v.below in let m : n ≡ v.programme.items - k = v.many in omega arith

    pub walk_none : r ≡ 0 → walked (Err ProgrammePassesEnd) exit ≡ walk_of s at k f
    walk_none z = let t = told_none s at f _ r exit e some z in ap (walked (Err ProgrammePassesEnd)) t.1 ∙ walk_refused (sym (t.0 ∙ step))

    pub walk-handed : ¬ (r ≡ 0) → walked (Ok (Some (record { count = r / 10; next = get_or exit (r - 1) 0 }))) exit ≡ walk_of s at k f
    walk-handed z =
        let t = told-one s at f _ r exit e some z in
        let is = items_from (length f / 10) s at k in
        let same : chain (min (length f / 10) n) s at ≡ is
        = (ap (λ m. chain (min (length f / 10) m) s at) v.many ∙ sym (counted (length f / 10) s v.programme v.reads at k)) in
        let whole : chain (min (length f / 10) n) s at ≡ t.item ∷ chain (min (length f / 10) n - 1) s t.item.next = t.items in
        let numbered : r ≡ 10 * length (chain (min (length f / 10) n) s at) = ap (λ (o : Out). o.code) e in
        let put : exit ≡ all_numbers (chain (min (length f / 10) n) s at) ++ drop (10 * length (chain (min (length f / 10) n) s at)) f = ap (λ (o : Out). o.out) e in
        let many : r / 10 ≡ length (chain (min (length f / 10) n) s at) = omega arith in
        let last : get_or exit (r - 1) 0 ≡ place_after at (chain (min (length f / 10) n) s at)
        = rw (put, numbered, whole) (last-next at t.item (chain (min (length f / 10) n - 1) s t.item.next) _) in
        rw (many, last) (ap (λ x. walked (Ok (Some (record { count = length (chain (min (length f / 10) n) s at); next = place_after at (chain (min (length f / 10) n) s at) }))) x) put)
        ∙ ap (handed at f) same
        ∙ walk-there t.item (sym (t.here ∙ step)) long
