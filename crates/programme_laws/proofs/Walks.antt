-- What is so of items, loops and walks (`specs/Theorems.antt` has the words).
--   inside, item_tiling, item_walk, own_walk
--   items_tile, settled, tiling, short
--   one_reading, one_step, one_own
use mathlib.Core.Path.{◌≡◌, refl, sym, ap, ◌∙◌}
use mathlib.Core.List.{List, [], ◌∷◌, ◌++◌, append_assoc}
use Prim.Native.Nat.{ℕ, zero, suc, ◌+◌, ◌-◌, ◌*◌, ◌<◌, ◌≤◌}
use native.Mathlib.Numerals.{add-one}
use native.Mathlib.Nat.{add-suc}
use native.Mathlib.Omega.{arith}
use lib.Dec.{leb}
use lib.ListN.{length, take, drop, length-drop, length-append, take-append-drop}
use lib.Seq.{drop-cons, drop-drop, take-append_seam, take-length}
use borrow.Author.Tests.{leb-true, leb-false}
use Rattle.base.specs.Bytes.{byte, part}
use Rattle.base.specs.Octets.{Octets}
use Rattle.base.proofs.Bytes.{part-add}
use Rattle.base.proofs.Cases.{by}
use Rattle.std.specs.Prelude.{Ok, Err, Some, None}
use Rattle.refusal.specs.declared.Refusal.{Refusal}
use Rattle.descriptors.specs.Walk as loops
use Rattle.programme.specs.Table.{num_content_items, content_name_length, content_name_at, num_content_descriptors, num_content_descriptors_at, content_descriptors_at, num_descriptors}
use Rattle.programme.specs.Run.{run_of}
use Rattle.programme.specs.Reading.{Reading, Step, read_of, step_of}
use Rattle.programme.specs.declared.Programme.{Programme}
use Rattle.programme.specs.declared.Item.{Item}
use Rattle.programme.proofs.Items as items
use Rattle.programme.proofs.Readings.{listed}
use Rattle.programme.proofs.Runs.{run_lies}
use Rattle.programme.proofs.Within.{own-ends, Stands, item-stands}
use Rattle.programme_laws.specs.Walk.{onward, walk, walk_of, reached, tiles, Counted}
use Rattle.programme_laws.specs.Layout.{loop_bytes}
use Rattle.programme_laws.specs.Theorems.{Inside, ItemTiling, ItemWalk, OwnWalk, ItemsTile, Settled, Tiling, Short, OneReading, OneStep, OneOwn}
use Rattle.programme_laws.proofs.Loops.{run-reads, counted}

-- one byte, and what is behind it; so many bytes, and what is behind them
pub one : (s : List ℕ) (p : ℕ) → p < length s → drop p s ≡ byte s p ∷ drop (p + 1) s
one s p l = rw add-one (drop-cons s p 0 l)

pub some : (s : List ℕ) (p n : ℕ) → part s p n ++ drop (p + n) s ≡ drop p s
some s p n = rw (← drop-drop n p s, take-append-drop)

part-one : (s : List ℕ) (p : ℕ) → p < length s → part s p 1 ≡ byte s p ∷ []
part-one s p l = rw (one s p l)

-- where a step is an item, that stands there
pub step-stands : (s : List ℕ) (at k : ℕ) (i : Item) → step_of s at k ≡ Ok (Some i) → Stands s at i
step-stands s at k i e = go (read_of s) refl
  where
    not_refused : {n : Refusal} → Err n ≡ Ok (Some i) → Stands s at i
    not_refused q = absurd (let z : ◌≡◌ {A = ℕ} 0 1 = cc in omega arith)

    not-over : ◌≡◌ {A = Step} (Ok None) (Ok (Some i)) → Stands s at i
    not-over q = absurd (let z : ◌≡◌ {A = ℕ} 0 1 = cc in omega arith)

    go : (r : Reading) → read_of s ≡ r → Stands s at i
    go (Err n) q = not_refused (items.step-refused s at k n q ∙ e)
    go (Ok p) q =
        by (leb p.items k)
        (λ t. not-over (items.step_over s at k p q (leb-true _ _ t) ∙ e))
        (λ f. item-stands s at i (items.step-item s at k p q (leb-false _ _ f) ∙ e))

-- and there is an item of that number
step-counted : (s : List ℕ) (at k : ℕ) (i : Item) → step_of s at k ≡ Ok (Some i) → k < num_content_items s
step-counted s at k i e = go (read_of s) refl
  where
    not_refused : {n : Refusal} → Err n ≡ Ok (Some i) → k < num_content_items s
    not_refused q = absurd (let z : ◌≡◌ {A = ℕ} 0 1 = cc in omega arith)

    not-over : ◌≡◌ {A = Step} (Ok None) (Ok (Some i)) → k < num_content_items s
    not-over q = absurd (let z : ◌≡◌ {A = ℕ} 0 1 = cc in omega arith)

    go : (r : Reading) → read_of s ≡ r → k < num_content_items s
    go (Err n) q = not_refused (items.step-refused s at k n q ∙ e)
    go (Ok p) q =
        let many : p.items ≡ num_content_items s = ap (λ (x : Programme). x.items) (listed s p q).says in
        by (leb p.items k)
        (λ t. not-over (items.step_over s at k p q (leb-true _ _ t) ∙ e))
        (λ f. let l : k < p.items = leb-false _ _ f in omega arith)

-- the bytes of a run are its descriptors'
run-part : (n : ℕ) (s : List ℕ) → Octets s → (at end : ℕ) → at ≤ length s → run_of n s at ≡ Some end → Counted n (loops.walk_of (part s at (end - at)))
run-part n s b at end l q =
    let w = run-reads n s b at end q in
    let lies = run_lies n s at end l q in
    let low : at + 2 * n ≤ end = lies.0 in
    let high : end ≤ length s = lies.1 in
    let sizes : length (drop at s) ≡ length (loop_bytes w.loop) + length (drop end s) = ap length w.bytes ∙ length-append (loop_bytes w.loop) (drop end s) in
    let size : end - at ≡ length (loop_bytes w.loop) = omega (arith, length-drop at s, length-drop end s) in
    let bytes : part s at (end - at) ≡ loop_bytes w.loop
    = ap (λ m. part s at m) size ∙ ap (take (length (loop_bytes w.loop))) w.bytes ∙ take-append_seam (loop_bytes w.loop) (drop end s) in
    rw bytes (rw w.many at (counted w.loop))

module _ (s : List ℕ) (at k : ℕ) where
  pub inside : Inside s at k
  inside i e =
      let w = step-stands s at k i e in
      let low : content_descriptors_at s at ≤ w.end = w.low in
      let high : w.end ≤ length s = w.high in
      rw w.says (omega arith, refl, omega arith, high)

  pub item_tiling : ItemTiling s at k
  item_tiling i e =
      let w = step-stands s at k i e in
      let low : content_descriptors_at s at ≤ w.end = w.low in
      let fits : content_descriptors_at s at ≤ length s = w.fits in
      let front : at + (content_name_at s at - at) ≡ content_name_at s at = omega arith in
      let count : byte s (num_content_descriptors_at s at) ∷ part s (content_descriptors_at s at) (w.end - content_descriptors_at s at)
      ≡ part s (num_content_descriptors_at s at) (1 + (w.end - content_descriptors_at s at))
      = sym (part-add s (num_content_descriptors_at s at) 1 (w.end - content_descriptors_at s at)
      ∙ ap (λ l. l ++ part s (content_descriptors_at s at) (w.end - content_descriptors_at s at)) (part-one s (num_content_descriptors_at s at) (omega arith))) in
      let name : part s (content_name_at s at) (content_name_length s at) ++ part s (num_content_descriptors_at s at) (1 + (w.end - content_descriptors_at s at))
      ≡ part s (content_name_at s at) (content_name_length s at + (1 + (w.end - content_descriptors_at s at)))
      = sym (part-add s (content_name_at s at) (content_name_length s at) (1 + (w.end - content_descriptors_at s at))) in
      let whole : part s at (content_name_at s at - at) ++ part s (content_name_at s at) (content_name_length s at + (1 + (w.end - content_descriptors_at s at)))
      ≡ part s at ((content_name_at s at - at) + (content_name_length s at + (1 + (w.end - content_descriptors_at s at))))
      = sym (part-add s at (content_name_at s at - at) (content_name_length s at + (1 + (w.end - content_descriptors_at s at)))
      ∙ ap (λ p. part s at (content_name_at s at - at) ++ part s p (content_name_length s at + (1 + (w.end - content_descriptors_at s at)))) front) in
      let size : (content_name_at s at - at) + (content_name_length s at + (1 + (w.end - content_descriptors_at s at))) ≡ w.end - at = omega arith in
      rw w.says
      (ap (λ l. part s at (content_name_at s at - at) ++ (part s (content_name_at s at) (content_name_length s at) ++ l)) count
      ∙ ap (λ l. part s at (content_name_at s at - at) ++ l) name
      ∙ whole
      ∙ ap (part s at) size)

  pub item_walk : ItemWalk s at k
  item_walk b i e =
      let w = step-stands s at k i e in
      rw w.says (run-part (num_content_descriptors s at) s b (content_descriptors_at s at) w.end w.fits w.run)

  pub one_step : OneStep s at k
  one_step x y e f = e ∙ sym f

module _ (s : List ℕ) where
  pub own_walk : (at : ℕ) → OwnWalk s at
  own_walk at b l e =
      let w = own-ends s at l e in
      rw w.says (run-part (num_descriptors s at) s b (at + 1) (length s) w.fits w.run)

  pub one_own : (at : ℕ) → OneOwn s at
  one_own at x y e f = e ∙ sym f

  pub one_reading : OneReading s
  one_reading x y e f = e ∙ sym f

  tile-from : (most at k : ℕ) → tiles s at (walk most s at k) ++ drop (reached at (walk most s at k)) s ≡ drop at s
  unfolding walk
  tile-from zero at k = refl
  tile-from (suc most) at k = go (λ to. tile-from most to (k + 1)) (step_of s at k) refl
    where
      go : ((to : ℕ) → tiles s to (walk most s to (k + 1)) ++ drop (reached to (walk most s to (k + 1))) s ≡ drop to s)
          → (x : Step) → step_of s at k ≡ x
          → tiles s at (x ∷ onward x (λ to. walk most s to (k + 1))) ++ drop (reached at (x ∷ onward x (λ to. walk most s to (k + 1)))) s ≡ drop at s
      go ih (Ok (Some i)) q =
          let w = step-stands s at k i q in
          let next : i.next ≡ w.end = ap (λ (x : Item). x.next) w.says in
          let low : content_descriptors_at s at ≤ w.end = w.low in
          let to : at + (i.next - at) ≡ i.next = omega arith in
          append_assoc (part s at (i.next - at)) _ _
          ∙ ap (λ l. part s at (i.next - at) ++ l) (ih i.next ∙ ap (λ p. drop p s) (sym to))
          ∙ some s at (i.next - at)
      go ih (Ok None) q = refl
      go ih (Err n) q = refl

  pub items_tile : ItemsTile s
  items_tile = tile-from (num_content_items s + 1) 17 0

  pub tiling : Tiling s
  tiling l e =
      let at : ℕ = reached 17 (walk_of s) in
      let w = own-ends s at l e in
      let fits : at + 1 ≤ length s = w.fits in
      let rest : l.count ∷ part s l.place l.length ≡ drop at s
      = (let size : length (drop (at + 1) s) ≡ length s - (at + 1) = length-drop (at + 1) s in
      rw w.says
      (ap (λ m. byte s at ∷ take m (drop (at + 1) s)) (sym size)
      ∙ ap (λ m. byte s at ∷ m) (take-length (drop (at + 1) s))
      ∙ sym (one s at (omega arith)))) in
      ap (λ m. part s 8 9 ++ (tiles s 17 (walk_of s) ++ m)) rest
      ∙ ap (λ m. part s 8 9 ++ m) items_tile
      ∙ some s 8 9

  settled-from : (left j at k : ℕ) → num_content_items s ≤ k + left → walk (j + suc left) s at k ≡ walk (suc left) s at k
  unfolding walk
  settled-from zero j at k h = rw add-suc (ap (λ xs. step_of s at k ∷ xs) (go (step_of s at k) refl))
    where
      go : (x : Step) → step_of s at k ≡ x → onward x (λ to. walk (j + 0) s to (k + 1)) ≡ onward x (λ to. walk 0 s to (k + 1))
      go (Ok (Some i)) q = absurd (let l : k < num_content_items s = step-counted s at k i q in omega arith)
      go (Ok None) q = refl
      go (Err n) q = refl
  settled-from (suc left) j at k h =
      rw add-suc (ap (λ xs. step_of s at k ∷ xs) (go (λ to. settled-from left j to (k + 1) (omega arith)) (step_of s at k)))
    where
      go : ((to : ℕ) → walk (j + suc left) s to (k + 1) ≡ walk (suc left) s to (k + 1))
          → (x : Step) → onward x (λ to. walk (j + suc left) s to (k + 1)) ≡ onward x (λ to. walk (suc left) s to (k + 1))
      go ih (Ok (Some i)) = ih i.next
      go ih (Ok None) = refl
      go ih (Err n) = refl

  pub settled : Settled s
  settled j = rw add-one (settled-from (num_content_items s) j 17 0 (omega arith))

  short-from : (most at k : ℕ) → 8 * length (walk most s at k) ≤ (length s - at) + 8
  unfolding walk
  short-from zero at k = omega arith
  short-from (suc most) at k = go (λ to. short-from most to (k + 1)) (step_of s at k) refl
    where
      go : ((to : ℕ) → 8 * length (walk most s to (k + 1)) ≤ (length s - to) + 8)
          → (x : Step) → step_of s at k ≡ x → 8 * length (x ∷ onward x (λ to. walk most s to (k + 1))) ≤ (length s - at) + 8
      go ih (Ok (Some i)) q =
          let w = step-stands s at k i q in
          let next : i.next ≡ w.end = ap (λ (x : Item). x.next) w.says in
          let low : content_descriptors_at s at ≤ w.end = w.low in
          let high : w.end ≤ length s = w.high in
          let rest : 8 * length (walk most s i.next (k + 1)) ≤ (length s - i.next) + 8 = ih i.next in
          omega arith
      go ih (Ok None) q = omega arith
      go ih (Err n) q = omega arith

  pub short : Short s
  short = omega (arith, short-from (num_content_items s + 1) 17 0)
